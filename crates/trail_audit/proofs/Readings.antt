-- What parts that were read say of bytes.
use Rattle.std.proofs.Common.{◌≡◌, ◌⊎◌, inl, inr, ℕ, ◌+◌, Bool, true, false, cond, List, [], ◌∷◌, ◌++◌, length, Option, Some, None, refl, ap, sym, subst, ◌∙◌, append-nil}
use Rattle.std.specs.Prelude.{option_map, is_some, option_to_list}
use Rattle.smart_base.specs.Lists.{or_else, Each}
use Rattle.audit_rules.specs.declared.recorded.Recorded.{Recorded}
use Rattle.audit_rules.specs.declared.recorded.Reading.{Reading}
use Rattle.audit_rules.specs.Audits.{is_client, damage_by, CanBegin}
use Rattle.audit_rules.specs.Readings.{Reached, parts_read, damage_in, part_count, damaged_part, all_begun, AreRead, Lacks, Refuses, StopsAt}
use Rattle.trail_reading.specs.Takings.{IsStop, IsRead}
use Rattle.trail_reading.specs.declared.parts.Stop.{Stop}
use Rattle.trail_reading.specs.declared.parts.Stop.TheVariants as stops
use Rattle.trail_audit.specs.declared.reader.ReadingFault.{ReadingFault}
use Rattle.trail_audit.specs.declared.reader.ReadingFault.TheVariants.{Empty, Form, Limit, NoMemory}
use Rattle.trail_audit.specs.Faults.{IsFault, IsWhole, IsWhy}

-- ---- nothing is damaged

or_none : {A : Type 0} (x y : Option A) → or_else x y ≡ None → (x ≡ None) × (y ≡ None)
or_none None y none = (refl, none)
or_none (Some x) y none = absurd (cc)

map_none : {A B : Type 0} (f : A → B) (x : Option A) → option_map f x ≡ None → x ≡ None
map_none f None none = refl
map_none f (Some x) none = absurd (cc)

begin_by : (t : Recorded) (client : Bool) → is_client t ≡ client → cond client None (damage_by t t.opening.app) ≡ None → CanBegin t
begin_by t true is none = λ member. absurd (cc)
begin_by t false is none = λ member. none

pub all_begin : (before : ℕ) (ts : List Recorded) → damaged_part before ts ≡ None → Each CanBegin ts
all_begin before [] none = tt
all_begin before (t ∷ ts) none =
    let parts = or_none (option_map (λ k. before + 1 + k) (damage_in t)) (damaged_part (before + part_count t) ts) none in
    (begin_by t (is_client t) refl (map_none _ (damage_in t) parts.0), all_begin (before + part_count t) ts parts.1)

-- ---- what was read

begun_none : {A : Type 0} (x : Option A) → is_some x ≡ false → x ≡ None
begun_none None is = refl
begun_none (Some x) is = absurd (cc)

whole_of : (ts : List Recorded) (begun : Option Recorded) → begun ≡ None → ts ++ option_to_list begun ≡ ts
whole_of ts begun none = ap (λ (b : Option Recorded). ts ++ option_to_list b) none ∙ append-nil ts

reached_as : (bytes : List ℕ) (count : ℕ) (last : Reached) (r : Reading) → parts_read bytes count ≡ Some last → last.reading ≡ r → parts_read bytes count ≡ Some (record { reading = r; cut = last.cut })
reached_as bytes count last r reached same = reached ∙ ap (λ (s : Reading). Some (record { reading = s; cut = last.cut })) same

pub are_read : (bytes : List ℕ) (r : Reading) (count : ℕ) (stop : Stop) (trails read : List Recorded) (lacks : Bool) → IsRead bytes (record { reading = r; count = count; stop = stop })
    → trails ≡ all_begun r → damaged_part 0 trails ≡ None → lacks ≡ is_some r.begun → read ≡ trails → IsWhole lacks count stop → AreRead bytes read
are_read bytes r count stop trails read lacks parts trails_are none lacks_is read_is whole =
    let begun : r.begun ≡ None = begun_none r.begun (sym lacks_is ∙ whole.complete) in
    let done : IsStop stops.Done count parts.last = subst (λ (s : Stop). IsStop s count parts.last) whole.ended parts.stop in
    let all : read ≡ r.trails = read_is ∙ (trails_are ∙ whole_of r.trails r.begun begun) in
    let as_read : r ≡ record { trails = read; begun = None } =
    ap (λ (b : Option Recorded). record { trails = r.trails; begun = b }) begun ∙ ap (λ (ts : List Recorded). record { trails = ts; begun = None }) (sym all) in
    record {
      count = count;
      some = whole.some;
      few = parts.few;
      last = parts.last.cut;
      reached = reached_as bytes count parts.last (record { trails = read; begun = None }) parts.reached (parts.same ∙ as_read);
      all = done;
      begin = all_begin 0 read (ap (λ (ts : List Recorded). damaged_part 0 ts) read_is ∙ none);
    }

-- ---- why nothing was read

last_damage : (r : Reading) (last : Reached) (trails : List Recorded) (damage : Option ℕ) → last.reading ≡ r → trails ≡ all_begun r → damage ≡ damaged_part 0 trails
    → damaged_part 0 (all_begun last.reading) ≡ damage
last_damage r last trails damage same trails_are told =
    ap (λ (s : Reading). damaged_part 0 (all_begun s)) same ∙ (ap (λ (ts : List Recorded). damaged_part 0 ts) (sym trails_are) ∙ sym told)

pub damaged_at : (bytes : List ℕ) (r : Reading) (count : ℕ) (stop : Stop) (trails : List Recorded) (damage : Option ℕ) (part : ℕ)
    → IsRead bytes (record { reading = r; count = count; stop = stop }) → trails ≡ all_begun r → damage ≡ damaged_part 0 trails → damage ≡ Some part → StopsAt bytes part
damaged_at bytes r count stop trails damage part parts trails_are told some =
    record { count = count; few = parts.few; last = parts.last; reached = parts.reached; cause = inl (last_damage r parts.last trails damage parts.same trails_are told ∙ some) }

left_of : Option Reached → List ℕ
left_of None = []
left_of (Some x) = x.cut.left

empty_of : (bytes : List ℕ) → length bytes ≡ 0 → bytes ≡ []
empty_of [] none = refl
empty_of (b ∷ bs) none = absurd (cc)

nothing_read : (bytes : List ℕ) (last : Reached) → parts_read bytes 0 ≡ Some last → length last.cut.left ≡ 0 → bytes ≡ []
unfolding parts_read left_of
nothing_read bytes last reached none = empty_of bytes (ap (λ o. length (left_of o)) reached ∙ none)

refuses_of : (count : ℕ) (stop : Stop) (last : Reached) (lacks : Bool) → IsStop stop count last → lacks ≡ is_some last.reading.begun
    → (stop ≡ stops.Unreadable) ⊎ ((stop ≡ stops.Done) × (lacks ≡ true)) → Lacks last ⊎ Refuses count last
refuses_of count stop last lacks is lacks_is (inl unreadable) = inr (subst (λ (s : Stop). IsStop s count last) unreadable is)
refuses_of count stop last lacks is lacks_is (inr lacking) = inl (subst (λ (s : Stop). IsStop s count last) lacking.0 is, sym lacks_is ∙ lacking.1)

pub fault_of : (bytes : List ℕ) (r : Reading) (count : ℕ) (stop : Stop) (trails : List Recorded) (damage : Option ℕ) (lacks : Bool) (fault : ReadingFault)
    → IsRead bytes (record { reading = r; count = count; stop = stop }) → trails ≡ all_begun r → damage ≡ damaged_part 0 trails → damage ≡ None → lacks ≡ is_some r.begun
    → IsWhy lacks count stop fault → IsFault bytes fault
fault_of bytes r count stop trails damage lacks Empty parts trails_are told none lacks_is why =
    nothing_read bytes parts.last (ap (λ n. parts_read bytes n) (sym why.1) ∙ parts.reached) (subst (λ (s : Stop). IsStop s count parts.last) why.0 parts.stop)
fault_of bytes r count stop trails damage lacks (Form part) parts trails_are told none lacks_is why =
    let begun : lacks ≡ is_some parts.last.reading.begun = lacks_is ∙ ap (λ (s : Reading). is_some s.begun) (sym parts.same) in
    record {
      count = count;
      few = parts.few;
      last = parts.last;
      reached = parts.reached;
      cause = inr (last_damage r parts.last trails damage parts.same trails_are told ∙ none, (why.0, refuses_of count stop parts.last lacks parts.stop begun why.1));
    }
fault_of bytes r count stop trails damage lacks (Limit part) parts trails_are told none lacks_is why =
    let limit : IsStop stops.Limit count parts.last = subst (λ (s : Stop). IsStop s count parts.last) why.1 parts.stop in
    record {
      last = parts.last;
      reached = ap (λ n. parts_read bytes n) (sym limit.1) ∙ parts.reached;
      whole = last_damage r parts.last trails damage parts.same trails_are told ∙ none;
      more = limit.0;
      part_is = why.0 ∙ ap (λ n. n + 1) limit.1;
    }
fault_of bytes r count stop trails damage lacks NoMemory parts trails_are told none lacks_is why = tt
