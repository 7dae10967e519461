-- What is read of a trail's opening is spelled so, and what is spelled so is read.
use Rattle.std.proofs.Common.{◌≡◌, ℕ, zero, suc, ◌^◌, ◌<◌, true, leb, List, ◌++◌, length, Result, Ok, Err, refl, sym, subst, arith}
use Rattle.std.specs.Prelude.{IfOk}
use Rattle.std.specs.Int.{w8, w16, w32, w64, to_be_bytes}
use Rattle.std.proofs.lemmas.Bool.{leb-true}
use Rattle.smart_base.specs.Cuts.{Cut, Read, ◌>>=◌, IsBytes, number_at, bytes_at, anything, GivesAll}
use Rattle.smart_base.specs.Fields.{kind_at}
use Rattle.smart_base.specs.FieldLaws.{u8_law, u16_law, u32_law, u64_law, kind_law}
use Rattle.smart_base.specs.Laws.{then_law, last_law, refit, ranged_law, contents_law, text_field, wide32, whole_takes, whole_again}
use Rattle.smart_base.specs.Spelling.{behind, Law}
use Rattle.smart_base.specs.Views.{View, is_view}
use Rattle.smart_base.specs.ViewBytes.{view_text, view_at}
use Rattle.smart_base.specs.declared.fault.ReadError.{ReadError}
use Rattle.smart_base.proofs.ViewLaws.{view_law}
use Rattle.trail.specs.Openings.{app_number, app_of, is_first, opening_text, FitsOpening, first_view_at, app_number_at, text_field_at, opening_at, opening_decoded}
use Rattle.trail.specs.declared.opening.App.{App}
use Rattle.trail.specs.declared.opening.App.TheVariants.{Count, Kv}
use Rattle.trail.specs.declared.opening.TrailOpening.{TrailOpening}

text_law : Law (λ t. length t < 2 ^ 32) (behind w32) text_field_at
text_law =
    refit (λ t. (length t < 2 ^ 32) × (anything (length t) ≡ true)) (λ t. length t < 2 ^ 32) (behind w32) text_field_at
    (contents_law _ (behind w32) bytes_at (text_field w32 (2 ^ 32) anything wide32)) (λ t h. h.0) (λ t h. (h, refl))

app-number : (n : ℕ) → leb n 1 ≡ true → app_number (app_of n) ≡ n
app-number zero h = refl
app-number (suc zero) h = refl
app-number (suc (suc n)) h = absurd (omega (arith, leb-true (suc (suc n)) 1 h))

app-back : (a : App) → app_of (app_number a) ≡ a
app-back Count = refl
app-back Kv = refl

app-fits : (a : App) → (app_number a < 2 ^ 8) × (leb (app_number a) 1 ≡ true)
app-fits Count = (omega arith, refl)
app-fits Kv = (omega arith, refl)

abbrev IsApp : ℕ → Type 0
IsApp n = (n < 2 ^ 8) × (leb n 1 ≡ true)

abbrev IsFirst : ℕ → View → Type 0
IsFirst p v = (is_view v ≡ true) × (is_first p v ≡ true)

abbrev make : ℕ → ℕ → View → ℕ → List ℕ → List ℕ → ℕ → TrailOpening
make m p v a s r n = record { member = m; period = p; view = v; app = app_of a; secret = s; snapshot = r; entries = n }

make_is : (o : TrailOpening) (m p : ℕ) (v : View) (a : ℕ) (s r : List ℕ) → o.member ≡ m → o.period ≡ p → o.view ≡ v → app_number o.app ≡ a → o.secret ≡ s → o.snapshot ≡ r
    → make m p v a s r o.entries ≡ o
make_is o m p v a s r e f g h i j = rw (← e, ← f, ← g, ← h, ← i, ← j, app-back o.app) refl

-- the byte with which an opening begins
abbrev first_byte : TrailOpening → ℕ
first_byte o = 0

abbrev Known : ℕ → ℕ → ℕ → TrailOpening → Type 0
Known k m p o = ((Unit {0} × (first_byte o ≡ k)) × (o.member ≡ m)) × (o.period ≡ p)

-- the parts behind the view, and from it on
abbrev Last : TrailOpening → Type 0
Last o = IsApp (app_number o.app) × ((length o.secret < 2 ^ 32) × ((length o.snapshot < 2 ^ 32) × (o.entries < 2 ^ 64)))

abbrev FromView : TrailOpening → Type 0
FromView o = IsFirst o.period o.view × Last o

abbrev last_text : TrailOpening → List ℕ
last_text o = to_be_bytes w8 (app_number o.app) ++ (behind w32 o.secret ++ (behind w32 o.snapshot ++ to_be_bytes w64 o.entries))

abbrev view_on_text : TrailOpening → List ℕ
view_on_text o = view_text o.view ++ last_text o

abbrev last_at : ℕ → ℕ → View → Cut → Read TrailOpening
last_at m p v c =
    app_number_at c >>= λ a. text_field_at a.1 >>= λ s. text_field_at s.1 >>= λ r. number_at w64 r.1 >>= λ n. Ok (make m p v a.0 s.0 r.0 n.0, n.1)

abbrev view_on_at : ℕ → ℕ → Cut → Read TrailOpening
view_on_at m p c = first_view_at p c >>= λ v. last_at m p v.0 v.1

last_part : (k m p : ℕ) → k ≡ 0 → (v : View) → Law (λ o. (Known k m p o × (o.view ≡ v)) × Last o) last_text (last_at m p v)
last_part k m p begins v =
    then_law (λ (o : TrailOpening). app_number o.app) (λ o. Known k m p o × (o.view ≡ v)) IsApp (to_be_bytes w8) app_number_at _ _ _
    (ranged_law (λ n. n < 2 ^ 8) (to_be_bytes w8) (number_at w8) (λ n. leb n 1) u8_law) λ a is_a.
    then_law (λ (o : TrailOpening). o.secret) (λ o. (Known k m p o × (o.view ≡ v)) × (app_number o.app ≡ a)) (λ t. length t < 2 ^ 32) (behind w32) text_field_at _ _ _
    text_law λ s is_s.
    then_law (λ (o : TrailOpening). o.snapshot) (λ o. ((Known k m p o × (o.view ≡ v)) × (app_number o.app ≡ a)) × (o.secret ≡ s)) (λ t. length t < 2 ^ 32) (behind w32) text_field_at _ _ _
    text_law λ r is_r.
    last_law (λ (o : TrailOpening). o.entries) (λ o. (((Known k m p o × (o.view ≡ v)) × (app_number o.app ≡ a)) × (o.secret ≡ s)) × (o.snapshot ≡ r)) (λ n. n < 2 ^ 64) (to_be_bytes w64) (number_at w64)
    (λ n. make m p v a s r n) u64_law
    (λ n h. ((((((((tt, sym begins), refl), refl), refl), app-number a is_a.1), refl), refl))) (λ n. refl)
    (λ o h. make_is o m p v a s r h.0.0.0.0.0.1 h.0.0.0.0.1 h.0.0.0.1 h.0.0.1 h.0.1 h.1)

view_part : (k m : ℕ) → k ≡ 0 → (p : ℕ) → Law (λ o. Known k m p o × FromView o) view_on_text (view_on_at m p)
view_part k m begins p =
    refit _ (λ o. Known k m p o × FromView o) view_on_text (view_on_at m p)
    (then_law (λ (o : TrailOpening). o.view) (Known k m p) (IsFirst p) view_text (first_view_at p) Last last_text (last_at m p)
    (ranged_law (λ v. is_view v ≡ true) view_text view_at (is_first p) view_law) (λ v is_v. last_part k m p begins v))
    (λ o h. (h.0, (subst (λ (q : ℕ). IsFirst q o.view) (sym h.0.1) h.1.0, h.1.1)))
    (λ o h. (h.0, (subst (λ (q : ℕ). IsFirst q o.view) h.0.1 h.1.0, h.1.1)))

opening_law : Law FitsOpening opening_text opening_at
unfolding opening_at opening_text
opening_law =
    refit _ FitsOpening opening_text opening_at
    (then_law first_byte (λ o. Unit {0}) (λ n. (n ≡ 0) × (n < 2 ^ 8)) (to_be_bytes w8) (kind_at 0) _ _ _ (kind_law 0) λ k is_k.
    then_law (λ (o : TrailOpening). o.member) (λ o. Unit {0} × (first_byte o ≡ k)) (λ n. n < 2 ^ 16) (to_be_bytes w16) (number_at w16) _ _ _ u16_law λ m is_m.
    then_law (λ (o : TrailOpening). o.period) (λ o. (Unit {0} × (first_byte o ≡ k)) × (o.member ≡ m)) (λ n. n < 2 ^ 32) (to_be_bytes w32) (number_at w32) FromView view_on_text (view_on_at m)
    u32_law (λ p is_p. view_part k m is_k.0 p))
    (λ o h. record {
      member_fits = h.1.1.0;
      period_fits = h.1.1.1.0;
      view_fits = h.1.1.1.1.0.0;
      first = h.1.1.1.1.0.1;
      secret_fits = h.1.1.1.1.1.1.0;
      snapshot_fits = h.1.1.1.1.1.1.1.0;
      entries_fit = h.1.1.1.1.1.1.1.1;
    })
    (λ o h. (tt, ((refl, omega arith), (h.member_fits, (h.period_fits, ((h.view_fits, h.first), (app-fits o.app, (h.secret_fits, (h.snapshot_fits, h.entries_fit)))))))))

abbrev start : List ℕ → Cut
start bytes = record { at = 0; left = bytes }

pub decoded-is : (bytes : List ℕ) (o : TrailOpening) → IsBytes bytes → opening_decoded bytes ≡ Ok o → FitsOpening o × (bytes ≡ opening_text o)
unfolding opening_decoded
decoded-is bytes o bs e = whole_takes FitsOpening opening_text opening_at opening_law (start bytes) o bs e

pub is-only : (bytes : List ℕ) (o : TrailOpening) → FitsOpening o → bytes ≡ opening_text o → opening_decoded bytes ≡ Ok o
unfolding opening_decoded
is-only bytes o fits e = whole_again FitsOpening opening_text opening_at opening_law (start bytes) o fits e

pub spelling-is : (o : TrailOpening) → FitsOpening o → opening_decoded (opening_text o) ≡ Ok o
spelling-is o fits = is-only (opening_text o) o fits refl

pub is-found : (bytes : List ℕ) (r : Result TrailOpening ReadError) → IsBytes bytes → GivesAll r (opening_decoded bytes) → IfOk r (λ o. FitsOpening o × (bytes ≡ opening_text o))
is-found bytes (Ok o) bs given = decoded-is bytes o bs given
is-found bytes (Err e) bs given = tt
