-- What tests and choices tell of values that may be there.
use Rattle.std.proofs.Common.{◌≡◌, Bool, true, false, refl, cond, Option, Some, None, is_some}
use Rattle.std.specs.Prelude.{is_none}
use Rattle.smart_base.specs.Lists.{or_else}

pub none_is : {A : Type 0} (o : Option A) → is_none o ≡ true → o ≡ None
none_is None is = refl
none_is (Some x) is = absurd (cc)

pub guard_passed : {A : Type 0} (test : Bool) (x : Option A) → is_some (cond test x None) ≡ true → test ≡ true
guard_passed true x some = refl
guard_passed false x some = absurd (cc)

pub else_none : {A : Type 0} (a b : Option A) → or_else a b ≡ None → (a ≡ None) × (b ≡ None)
else_none None b is = (refl, is)
else_none (Some x) b is = absurd (cc)

-- a choice that gives nothing, and else goes on
pub no_reason : {A : Type 0} (b : Bool) (why : A) (o : Option A) → cond b (Some why) o ≡ None → (b ≡ false) × (o ≡ None)
no_reason true why o is = absurd (cc)
no_reason false why o is = (refl, is)
