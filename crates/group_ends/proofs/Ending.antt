-- That an End is the last event of a trail.
use Rattle.std.proofs.Common.{◌≡◌, Bool, true, false, ◌||◌, ℕ, List, [], ◌∷◌, ◌++◌, drop, length, take, zero, suc, refl, sym, ap, ◌∙◌, arith, true≢false, length-append}
use Rattle.node_rules.specs.declared.node.Target.{Target}
use Rattle.trail.specs.declared.event.Addressed.{Addressed}
use Rattle.trail.specs.declared.event.TrailEvent.{TrailEvent}
use Rattle.trail.specs.declared.event.TrailEvent.TheVariants.{Send, End}
use Rattle.group_ends.specs.Journals.{is_end, has_end, IsEndLast}
use Rattle.group_ends.specs.Ports.{losts, IsPosted}

pub neither : (a b : Bool) → (a || b) ≡ false → (a ≡ false) × (b ≡ false)
neither true b none = absurd (true≢false none)
neither false b none = (refl, none)

-- no End in either of two lists
pub none-join : (es rest : List TrailEvent) → has_end es ≡ false → has_end rest ≡ false → has_end (es ++ rest) ≡ false
none-join [] rest none own = own
none-join (x ∷ es) rest none own =
    let both = neither (is_end x) (has_end es) none in
    ap (λ (b : Bool). b || has_end (es ++ rest)) both.0 ∙ none-join es rest both.1 own

-- behind a list without an End, a list has one if the second has
pub end-join : (es rest : List TrailEvent) → has_end es ≡ false → has_end (es ++ rest) ≡ has_end rest
end-join [] rest none = refl
end-join (x ∷ es) rest none =
    let both = neither (is_end x) (has_end es) none in
    ap (λ (b : Bool). b || has_end (es ++ rest)) both.0 ∙ end-join es rest both.1

-- a front has none
pub none-front : (es : List TrailEvent) (count : ℕ) → has_end es ≡ false → has_end (take count es) ≡ false
none-front es zero none = refl
none-front [] (suc count) none = refl
none-front (x ∷ es) (suc count) none =
    let both = neither (is_end x) (has_end es) none in
    ap (λ (b : Bool). b || has_end (take count es)) both.0 ∙ none-front es count both.1

last-more : (es : List TrailEvent) (e : TrailEvent) → has_end es ≡ false → (before behind : List TrailEvent) → es ++ e ∷ [] ≡ before ++ End ∷ behind → behind ≡ []
last-more [] e none [] behind is = sym (ap (drop 1) is)
last-more [] e none (y ∷ before) behind is = absurd (omega (arith, ap length is, length-append before (End ∷ behind)))
last-more (x ∷ es) e none [] behind is =
    let both = neither (is_end x) (has_end es) none in
    absurd (true≢false (sym (ap first_ends is) ∙ both.0))
  where
    first_ends : List TrailEvent → Bool
    first_ends [] = false
    first_ends (f ∷ fs) = is_end f
last-more (x ∷ es) e none (y ∷ before) behind is = last-more es e (neither (is_end x) (has_end es) none).1 before behind (ap (drop 1) is)

-- no End stands in an empty trail
pub last-none : (es : List TrailEvent) → es ≡ [] → IsEndLast es
last-none es none = λ before behind is. absurd (omega (arith, ap length (sym none ∙ is), length-append before (End ∷ behind)))

or-false : (b : Bool) → (b || false) ≡ b
or-false true = refl
or-false false = refl

module _ (es new : List TrailEvent) (e : TrailEvent) (longer : new ≡ es ++ e ∷ []) (none : has_end es ≡ false) where
  -- a trail with one more event has an End if that is one
  pub end-more : has_end new ≡ is_end e
  end-more = ap has_end longer ∙ end-join es (e ∷ []) none ∙ or-false (is_end e)

  pub goes-by : is_end e ≡ false → has_end new ≡ false
  goes-by own = end-more ∙ own

  -- an event behind no End leaves an End last
  pub last-by : IsEndLast new
  last-by = λ before behind is. last-more es e none before behind (sym longer ∙ is)

-- no Lost is an End
pub losts-go : (a : Addressed) (ends : List Target) (ds : List Bool) → has_end (losts a ends ds) ≡ false
losts-go a [] ds = refl
losts-go a (end ∷ ends) [] = refl
losts-go a (end ∷ ends) (true ∷ ds) = losts-go a ends ds
losts-go a (end ∷ ends) (false ∷ ds) = losts-go a ends ds

-- no End stands in a trail from which a message has left
pub posted-goes : (es new : List TrailEvent) (a : Addressed) (ends : List Target) → IsPosted a ends es new → has_end es ≡ false → has_end new ≡ false
posted-goes es new a ends posted none = ap has_end posted.after_is ∙ none-join es (Send a ∷ losts a ends posted.dropped) none (losts-go a ends posted.dropped)
