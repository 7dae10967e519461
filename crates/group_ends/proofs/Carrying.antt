-- What a link carries by a trail that has more events.
use Rattle.std.proofs.Common.{◌≡◌, ℕ, zero, suc, Bool, true, false, not, cond, ◌&&◌, ◌||◌, List, [], ◌∷◌, ◌++◌, take, refl, sym, ap, subst, ◌∙◌, true≢false, append-nil}
use Rattle.std.proofs.lemmas.Bool.{eqb-true, eq-eqb}
use Rattle.smart_base.specs.Lists.{Each}
use Rattle.smart_messages.specs.Messages.{spelling}
use Rattle.node_rules.specs.declared.node.Target.{Target}
use Rattle.node_rules.specs.declared.node.Target.TheVariants.{Node, Client, View, Clients}
use Rattle.trail.specs.declared.event.Addressed.{Addressed}
use Rattle.trail.specs.declared.event.TrailEvent.{TrailEvent}
use Rattle.trail.specs.declared.event.TrailEvent.TheVariants.{Happens, Send, Lost, Polls, End}
use Rattle.group_ends.specs.Carried.{same_target, same_end, is_for, is_lost, carried}
use Rattle.group_ends.specs.Ports.{IsApart, AreApart, added, losts}

-- ---- receivers

pub same-itself : (t : Target) → same_target t t ≡ true
same-itself (Node a) = eq-eqb a a refl
same-itself (Client a) = eq-eqb a a refl
same-itself View = refl
same-itself Clients = refl

same-is : (s t : Target) → same_target s t ≡ true → s ≡ t
same-is (Node a) (Node b) e = ap Node (eqb-true a b e)
same-is (Node a) (Client b) e = absurd (true≢false (sym e))
same-is (Node a) View e = absurd (true≢false (sym e))
same-is (Node a) Clients e = absurd (true≢false (sym e))
same-is (Client a) (Node b) e = absurd (true≢false (sym e))
same-is (Client a) (Client b) e = ap Client (eqb-true a b e)
same-is (Client a) View e = absurd (true≢false (sym e))
same-is (Client a) Clients e = absurd (true≢false (sym e))
same-is View (Node b) e = absurd (true≢false (sym e))
same-is View (Client b) e = absurd (true≢false (sym e))
same-is View View e = refl
same-is View Clients e = absurd (true≢false (sym e))
same-is Clients (Node b) e = absurd (true≢false (sym e))
same-is Clients (Client b) e = absurd (true≢false (sym e))
same-is Clients View e = absurd (true≢false (sym e))
same-is Clients Clients e = refl

-- the ends of two links are two receivers
pub end-apart : (s t : Target) → same_end s t ≡ false → same_target s t ≡ false
end-apart (Node a) (Node b) e = e
end-apart (Node a) (Client b) e = refl
end-apart (Node a) View e = refl
end-apart (Node a) Clients e = refl
end-apart (Client a) (Node b) e = refl
end-apart (Client a) (Client b) e = absurd (true≢false e)
end-apart (Client a) View e = refl
end-apart (Client a) Clients e = refl
end-apart View (Node b) e = refl
end-apart View (Client b) e = refl
end-apart View View e = e
end-apart View Clients e = refl
end-apart Clients (Node b) e = refl
end-apart Clients (Client b) e = refl
end-apart Clients View e = refl
end-apart Clients Clients e = e

-- apart from each other, told the other way round
pub apart-back : (s t : Target) → same_target s t ≡ false → same_target t s ≡ false
apart-back s t apart = by-case (same_target t s) refl
  where
    by-case : (b : Bool) → same_target t s ≡ b → b ≡ false
    by-case false is = refl
    by-case true is =
        let same : t ≡ s = same-is t s is in
        absurd (true≢false (sym (subst (λ (x : Target). same_target s x ≡ true) (sym same) (same-itself s)) ∙ apart))

-- ---- events behind others

-- an event that is no Lost
abbrev pub is_other : TrailEvent → Bool
is_other (Happens event) = true
is_other (Send a) = true
is_other (Lost a) = false
is_other (Polls count) = true
is_other End = true

lost-other : (end : Target) (e : TrailEvent) (rest : List TrailEvent) → is_other e ≡ true → is_lost end (e ∷ rest) ≡ false
lost-other end (Happens event) rest is = refl
lost-other end (Send a) rest is = refl
lost-other end (Lost a) rest is = absurd (true≢false (sym is))
lost-other end (Polls count) rest is = refl
lost-other end End rest is = refl

-- what was dropped is told before the next other event
lost-join : (end : Target) (es : List TrailEvent) (e : TrailEvent) (rest : List TrailEvent) → is_other e ≡ true → is_lost end (es ++ e ∷ rest) ≡ is_lost end es
lost-join end [] e rest is = lost-other end e rest is
lost-join end (Happens event ∷ es) e rest is = refl
lost-join end (Send a ∷ es) e rest is = refl
lost-join end (Lost a ∷ es) e rest is = ap (λ (b : Bool). same_target a.to end || b) (lost-join end es e rest is)
lost-join end (Polls count ∷ es) e rest is = refl
lost-join end (End ∷ es) e rest is = refl

choose-join : (b c : Bool) (x : List ℕ) (xs ys zs : List (List ℕ)) → b ≡ c → xs ≡ ys ++ zs → cond b (x ∷ xs) xs ≡ cond c (x ∷ ys) ys ++ zs
choose-join true true x xs ys zs e is = ap (λ (l : List (List ℕ)). x ∷ l) is
choose-join true false x xs ys zs e is = absurd (true≢false e)
choose-join false true x xs ys zs e is = absurd (true≢false (sym e))
choose-join false false x xs ys zs e is = is

-- a link carries what it carried before an event that is no Lost, and what it carries from then on
pub carried-join : (end : Target) (es : List TrailEvent) (e : TrailEvent) (rest : List TrailEvent) → is_other e ≡ true
    → carried end (es ++ e ∷ rest) ≡ carried end es ++ carried end (e ∷ rest)
carried-join end [] e rest is = refl
carried-join end (Happens event ∷ es) e rest is = carried-join end es e rest is
carried-join end (Send a ∷ es) e rest is =
    choose-join (is_for a.to end && not (is_lost end (es ++ e ∷ rest))) (is_for a.to end && not (is_lost end es)) (spelling a.message) _ (carried end es) (carried end (e ∷ rest))
    (ap (λ (b : Bool). is_for a.to end && not b) (lost-join end es e rest is)) (carried-join end es e rest is)
carried-join end (Lost a ∷ es) e rest is = carried-join end es e rest is
carried-join end (Polls count ∷ es) e rest is = carried-join end es e rest is
carried-join end (End ∷ es) e rest is = carried-join end es e rest is

-- ---- events that tell of one message that it was dropped

-- an event that tells that a message was dropped
abbrev pub IsLostOf : Addressed → TrailEvent → Type 0
IsLostOf a (Happens event) = ⊥
IsLostOf a (Send b) = ⊥
IsLostOf a (Lost b) = b.message ≡ a.message
IsLostOf a (Polls count) = ⊥
IsLostOf a End = ⊥

-- nothing more by Losts
losts-carry : (end : Target) (a : Addressed) (lost : List TrailEvent) → Each (IsLostOf a) lost → carried end lost ≡ []
losts-carry end a [] only = refl
losts-carry end a (Happens event ∷ lost) only = absurd only.0
losts-carry end a (Send b ∷ lost) only = absurd only.0
losts-carry end a (Lost b ∷ lost) only = losts-carry end a lost only.1
losts-carry end a (Polls count ∷ lost) only = absurd only.0
losts-carry end a (End ∷ lost) only = absurd only.0

choose-one : (b : Bool) (x : List ℕ) (xs : List (List ℕ)) → xs ≡ [] → cond b (x ∷ xs) xs ≡ cond b (x ∷ []) []
choose-one true x xs e = ap (λ (l : List (List ℕ)). x ∷ l) e
choose-one false x xs e = e

-- a Send with its Losts joins the message, unless the link dropped it
pub carried-send : (end : Target) (es : List TrailEvent) (a : Addressed) (lost : List TrailEvent) → Each (IsLostOf a) lost
    → carried end (es ++ Send a ∷ lost) ≡ carried end es ++ added (is_for a.to end) (is_lost end lost) (spelling a.message)
carried-send end es a lost only =
    carried-join end es (Send a) lost refl
    ∙ ap (λ (l : List (List ℕ)). carried end es ++ l) (choose-one (is_for a.to end && not (is_lost end lost)) (spelling a.message) (carried end lost) (losts-carry end a lost only))

-- an event that neither sends nor drops changes nothing
abbrev pub is_mute : TrailEvent → Bool
is_mute (Happens event) = true
is_mute (Send a) = false
is_mute (Lost a) = false
is_mute (Polls count) = true
is_mute End = true

pub carried-mute : (end : Target) (es : List TrailEvent) (e : TrailEvent) → is_mute e ≡ true → carried end (es ++ e ∷ []) ≡ carried end es
carried-mute end es (Happens event) is = carried-join end es (Happens event) [] refl ∙ append-nil (carried end es)
carried-mute end es (Send a) is = absurd (true≢false (sym is))
carried-mute end es (Lost a) is = absurd (true≢false (sym is))
carried-mute end es (Polls count) is = carried-join end es (Polls count) [] refl ∙ append-nil (carried end es)
carried-mute end es End is = carried-join end es End [] refl ∙ append-nil (carried end es)

-- ---- the Losts of a message

pub losts-only : (a : Addressed) (ends : List Target) (ds : List Bool) → Each (IsLostOf a) (losts a ends ds)
losts-only a [] ds = tt
losts-only a (end ∷ ends) [] = tt
losts-only a (end ∷ ends) (true ∷ ds) = (refl, losts-only a ends ds)
losts-only a (end ∷ ends) (false ∷ ds) = losts-only a ends ds

pub losts-none : (a : Addressed) (ends : List Target) → losts a ends [] ≡ []
losts-none a [] = refl
losts-none a (end ∷ ends) = refl

-- a front of them is the Losts of the first of the links
pub losts-front : (a : Addressed) (ends : List Target) (ds : List Bool) (count : ℕ) → (some : ℕ) × (take count (losts a ends ds) ≡ losts a ends (take some ds))
losts-front a ends ds zero = (0, sym (losts-none a ends))
losts-front a [] ds (suc count) = (0, refl)
losts-front a (end ∷ ends) [] (suc count) = (0, refl)
losts-front a (end ∷ ends) (true ∷ ds) (suc count) =
    let rest = losts-front a ends ds count in (suc rest.0, ap (λ (l : List TrailEvent). Lost (record { to = end; message = a.message }) ∷ l) rest.1)
losts-front a (end ∷ ends) (false ∷ ds) (suc count) = let rest = losts-front a ends ds (suc count) in (suc rest.0, rest.1)

pub take-only : (a : Addressed) (count : ℕ) (lost : List TrailEvent) → Each (IsLostOf a) lost → Each (IsLostOf a) (take count lost)
take-only a zero lost only = tt
take-only a (suc count) [] only = tt
take-only a (suc count) (e ∷ lost) only = (only.0, take-only a count lost only.1)

-- each end is told to have dropped the message or not
abbrev pub Matches : List TrailEvent → List Target → List Bool → Type 0
Matches lost [] ds = Unit {0}
Matches lost (end ∷ ends) [] = Unit {0}
Matches lost (end ∷ ends) (d ∷ ds) = (is_lost end lost ≡ d) × Matches lost ends ds

-- one Lost more for an end that is apart from these
matches-more : (end : Target) (a : Addressed) (lost : List TrailEvent) (ends : List Target) (ds : List Bool) → a.to ≡ end → IsApart end ends → Matches lost ends ds → Matches (Lost a ∷ lost) ends ds
matches-more end a lost [] ds to apart m = tt
matches-more end a lost (other ∷ ends) [] to apart m = tt
matches-more end a lost (other ∷ ends) (d ∷ ds) to apart m =
    (ap (λ (t : Target). same_target t other || is_lost other lost) to ∙ ap (λ (b : Bool). b || is_lost other lost) (end-apart end other apart.0) ∙ m.0, matches-more end a lost ends ds to apart.1 m.1)

-- an end apart from others is not told to have dropped it
pub not-there : (end : Target) (a : Addressed) (ends : List Target) (ds : List Bool) → IsApart end ends → is_lost end (losts a ends ds) ≡ false
not-there end a [] ds apart = refl
not-there end a (other ∷ ends) [] apart = refl
not-there end a (other ∷ ends) (true ∷ ds) apart = ap (λ (b : Bool). b || is_lost end (losts a ends ds)) (apart-back end other (end-apart end other apart.0)) ∙ not-there end a ends ds apart.1
not-there end a (other ∷ ends) (false ∷ ds) apart = not-there end a ends ds apart.1

pub matches-losts : (a : Addressed) (ends : List Target) (ds : List Bool) → AreApart ends → Matches (losts a ends ds) ends ds
matches-losts a [] ds apart = tt
matches-losts a (end ∷ ends) [] apart = tt
matches-losts a (end ∷ ends) (true ∷ ds) apart =
    let told : (same_target end end || is_lost end (losts a ends ds)) ≡ true = ap (λ (b : Bool). b || is_lost end (losts a ends ds)) (same-itself end) in
    (told, matches-more end (record { to = end; message = a.message }) (losts a ends ds) ends ds refl apart.0 (matches-losts a ends ds apart.1))
matches-losts a (end ∷ ends) (false ∷ ds) apart = (not-there end a ends ds apart.0, matches-losts a ends ds apart.1)

-- a front of the Losts tells no more
pub lost-front : (end : Target) (a : Addressed) (count : ℕ) (lost : List TrailEvent) → Each (IsLostOf a) lost → is_lost end (take count lost) ≡ true → is_lost end lost ≡ true
lost-front end a zero lost only is = absurd (true≢false (sym is))
lost-front end a (suc count) [] only is = absurd (true≢false (sym is))
lost-front end a (suc count) (Happens event ∷ lost) only is = absurd only.0
lost-front end a (suc count) (Send b ∷ lost) only is = absurd only.0
lost-front end a (suc count) (Lost b ∷ lost) only is = either (same_target b.to end) (is_lost end (take count lost)) (is_lost end lost) (lost-front end a count lost only.1) is
  where
    either : (s x y : Bool) → (x ≡ true → y ≡ true) → (s || x) ≡ true → (s || y) ≡ true
    either true x y more it = refl
    either false x y more it = more it
lost-front end a (suc count) (Polls n ∷ lost) only is = absurd only.0
lost-front end a (suc count) (End ∷ lost) only is = absurd only.0
