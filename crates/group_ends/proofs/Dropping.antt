-- When links drop messages, by trails that have more events.
use Rattle.std.proofs.Common.{◌≡◌, ℕ, zero, suc, ◌<◌, ◌≤◌, Bool, true, false, ◌||◌, List, [], ◌∷◌, ◌++◌, length, take, Option, Some, None, refl, sym, ap, subst, ◌∙◌, true≢false, arith, append_assoc, append-nil, length-append}
use Rattle.smart_base.specs.Lists.{Each}
use Rattle.smart_messages.specs.Messages.{spelling}
use Rattle.node_rules.specs.declared.node.Target.{Target}
use Rattle.trail.specs.declared.event.Addressed.{Addressed}
use Rattle.trail.specs.declared.event.TrailEvent.{TrailEvent}
use Rattle.trail.specs.declared.event.TrailEvent.TheVariants.{Happens, Send, Lost, Polls, End}
use Rattle.group_ends.specs.Carried.{same_target, is_for, is_lost, carried, last_sent, IsOf, is_among, is_told, MayDrop, DropsLate}
use Rattle.group_ends.specs.Ports.{IsApart, AreApart, added, losts}
use Rattle.group_ends.proofs.Carrying.{end-apart, IsLostOf, same-itself, carried-send}

-- ---- events behind others

pub late-join : (targets : List Target) (before xs ys : List TrailEvent) → DropsLate targets before xs → DropsLate targets (before ++ xs) ys → DropsLate targets before (xs ++ ys)
late-join targets before [] ys first rest = subst (λ (l : List TrailEvent). DropsLate targets l ys) (append-nil before) rest
late-join targets before (x ∷ xs) ys first rest =
    (first.0, late-join targets (before ++ x ∷ []) xs ys first.1 (subst (λ (l : List TrailEvent). DropsLate targets l ys) (sym (append_assoc before (x ∷ []) xs)) rest))

pub late-front : (targets : List Target) (before xs : List TrailEvent) (count : ℕ) → DropsLate targets before xs → DropsLate targets before (take count xs)
late-front targets before xs zero late = tt
late-front targets before [] (suc count) late = tt
late-front targets before (x ∷ xs) (suc count) late = (late.0, late-front targets (before ++ x ∷ []) xs count late.1)

-- one event more
pub late-more : (targets : List Target) (es : List TrailEvent) (e : TrailEvent) → DropsLate targets [] es → MayDrop targets es e → DropsLate targets [] (es ++ e ∷ [])
late-more targets es e late may = late-join targets [] es (e ∷ []) late (may, tt)

-- ---- the Losts of a message

-- the message that was sent last stays the last one
last-lost : (a : Addressed) (last : Option Addressed) (lost : List TrailEvent) → Each (IsLostOf a) lost → last_sent last lost ≡ last
last-lost a last [] only = refl
last-lost a last (Happens event ∷ lost) only = absurd only.0
last-lost a last (Send b ∷ lost) only = absurd only.0
last-lost a last (Lost b ∷ lost) only = last-lost a last lost only.1
last-lost a last (Polls count ∷ lost) only = absurd only.0
last-lost a last (End ∷ lost) only = absurd only.0

pub last-send : (last : Option Addressed) (es : List TrailEvent) (a : Addressed) (lost : List TrailEvent) → Each (IsLostOf a) lost → last_sent last (es ++ Send a ∷ lost) ≡ Some a
last-send last [] a lost only = last-lost a (Some a) lost only
last-send last (Happens event ∷ es) a lost only = last-send None es a lost only
last-send last (Send b ∷ es) a lost only = last-send (Some b) es a lost only
last-send last (Lost b ∷ es) a lost only = last-send last es a lost only
last-send last (Polls count ∷ es) a lost only = last-send None es a lost only
last-send last (End ∷ es) a lost only = last-send None es a lost only

-- an end is told to have dropped a message by its Losts alone
told-none : (end : Target) (a : Addressed) (lost : List TrailEvent) → Each (IsLostOf a) lost → is_lost end lost ≡ false → is_told false end lost ≡ false
told-none end a [] only none = refl
told-none end a (Happens event ∷ lost) only none = absurd only.0
told-none end a (Send b ∷ lost) only none = absurd only.0
told-none end a (Lost b ∷ lost) only none =
    subst (λ (t : Bool). is_told t end lost ≡ false) (sym (left (same_target b.to end) (is_lost end lost) none))
    (told-none end a lost only.1 (right (same_target b.to end) (is_lost end lost) none))
  where
    left : (x y : Bool) → (x || y) ≡ false → x ≡ false
    left true y e = e
    left false y e = refl

    right : (x y : Bool) → (x || y) ≡ false → y ≡ false
    right true y e = absurd (true≢false e)
    right false y e = e
told-none end a (Polls count ∷ lost) only none = absurd only.0
told-none end a (End ∷ lost) only none = absurd only.0

told-send : (told : Bool) (end : Target) (es : List TrailEvent) (a : Addressed) (lost : List TrailEvent) → Each (IsLostOf a) lost → is_lost end lost ≡ false → is_told told end (es ++ Send a ∷ lost) ≡ false
told-send told end [] a lost only none = told-none end a lost only none
told-send told end (Happens event ∷ es) a lost only none = told-send false end es a lost only none
told-send told end (Send b ∷ es) a lost only none = told-send false end es a lost only none
told-send told end (Lost b ∷ es) a lost only none = told-send (told || same_target b.to end) end es a lost only none
told-send told end (Polls count ∷ es) a lost only none = told-send false end es a lost only none
told-send told end (End ∷ es) a lost only none = told-send false end es a lost only none

-- each end is one of them
among-more : (x : Target) (targets ends : List Target) → Each (λ (e : Target). is_among e targets ≡ true) ends → Each (λ (e : Target). is_among e (x ∷ targets) ≡ true) ends
among-more x targets [] all = tt
among-more x targets (end ∷ ends) all = (either (same_target end x) (is_among end targets) all.0, among-more x targets ends all.1)
  where
    either : (s b : Bool) → b ≡ true → (s || b) ≡ true
    either true b is = refl
    either false b is = is

all-among : (ends : List Target) → Each (λ (e : Target). is_among e ends ≡ true) ends
all-among [] = tt
all-among (end ∷ ends) = (ap (λ (b : Bool). b || is_among end ends) (same-itself end), among-more end ends ends (all-among ends))

-- ends whose links may drop the message
abbrev pub MayLose : List TrailEvent → Addressed → List Target → List Bool → Type 0
MayLose es a [] ds = Unit {0}
MayLose es a (end ∷ ends) [] = Unit {0}
MayLose es a (end ∷ ends) (d ∷ ds) = (d ≡ true → (is_for a.to end ≡ true) × (1024 ≤ length (carried end es))) × MayLose es a ends ds

lost-more : (end other : Target) (a : Addressed) (lost : List TrailEvent) → a.to ≡ other → same_target other end ≡ false → is_lost end lost ≡ false → is_lost end (lost ++ Lost a ∷ []) ≡ false
lost-more end other a [] to apart none = ap (λ (t : Target). same_target t end || false) to ∙ ap (λ (b : Bool). b || false) apart
lost-more end other a (Happens event ∷ lost) to apart none = refl
lost-more end other a (Send b ∷ lost) to apart none = refl
lost-more end other a (Lost b ∷ lost) to apart none = neither (same_target b.to end) (is_lost end lost) (is_lost end (lost ++ Lost a ∷ [])) none (lost-more end other a lost to apart)
  where
    neither : (s x y : Bool) → (s || x) ≡ false → (x ≡ false → y ≡ false) → (s || y) ≡ false
    neither true x y e more = e
    neither false x y e more = more e
lost-more end other a (Polls count ∷ lost) to apart none = refl
lost-more end other a (End ∷ lost) to apart none = refl

none-more : (other : Target) (a : Addressed) (lost : List TrailEvent) (ends : List Target) → a.to ≡ other → IsApart other ends → Each (λ (e : Target). is_lost e lost ≡ false) ends
    → Each (λ (e : Target). is_lost e (lost ++ Lost a ∷ []) ≡ false) ends
none-more other a lost [] to apart none = tt
none-more other a lost (end ∷ ends) to apart none = (lost-more end other a lost to (end-apart other end apart.0) none.0, none-more other a lost ends to apart.1 none.1)

only-more : (a b : Addressed) (lost : List TrailEvent) → Each (IsLostOf a) lost → b.message ≡ a.message → Each (IsLostOf a) (lost ++ Lost b ∷ [])
only-more a b [] only same = (same, tt)
only-more a b (e ∷ lost) only same = (only.0, only-more a b lost only.1 same)

full-with : (xs : List (List ℕ)) (heard lost : Bool) (text : List ℕ) → heard ≡ true → lost ≡ false → 1024 ≤ length xs → 1024 < length (xs ++ added heard lost text)
full-with xs true false text h l full = omega (arith, length-append xs (text ∷ []), full)
full-with xs true true text h l full = absurd (true≢false l)
full-with xs false lost text h l full = absurd (true≢false (sym h))

-- the Losts of a message come late, behind some of them
losts-late-behind : (targets : List Target) (es : List TrailEvent) (a : Addressed) (lost : List TrailEvent) (ends : List Target) (ds : List Bool) → Each (IsLostOf a) lost → AreApart ends
    → Each (λ (e : Target). is_among e targets ≡ true) ends → Each (λ (e : Target). is_lost e lost ≡ false) ends → MayLose es a ends ds → DropsLate targets (es ++ Send a ∷ lost) (losts a ends ds)
losts-late-behind targets es a lost [] ds only apart among none may = tt
losts-late-behind targets es a lost (end ∷ ends) [] only apart among none may = tt
losts-late-behind targets es a lost (end ∷ ends) (false ∷ ds) only apart among none may = losts-late-behind targets es a lost ends ds only apart.1 among.1 none.1 may.1
losts-late-behind targets es a lost (end ∷ ends) (true ∷ ds) only apart among none may =
    let b : Addressed = record { to = end; message = a.message } in
    let can = may.0 refl in
    let sent : IsOf b (last_sent None (es ++ Send a ∷ lost)) = subst (IsOf b) (sym (last-send None es a lost only)) (refl, can.0) in
    let full : 1024 < length (carried end (es ++ Send a ∷ lost)) =
    subst (λ (l : List (List ℕ)). 1024 < length l) (sym (carried-send end es a lost only))
    (full-with (carried end es) (is_for a.to end) (is_lost end lost) (spelling a.message) can.0 none.0 can.1) in
    let rest : DropsLate targets (es ++ Send a ∷ (lost ++ Lost b ∷ [])) (losts a ends ds) =
    losts-late-behind targets es a (lost ++ Lost b ∷ []) ends ds (only-more a b lost only refl) apart.1 among.1 (none-more end b lost ends refl apart.0 none.1) may.1 in
    ((sent, among.0, told-send false end es a lost only none.0, full), subst (λ (l : List TrailEvent). DropsLate targets l (losts a ends ds)) (sym (append_assoc es (Send a ∷ lost) (Lost b ∷ []))) rest)

none-lost : (ends : List Target) → Each (λ (e : Target). is_lost e [] ≡ false) ends
none-lost [] = tt
none-lost (end ∷ ends) = (refl, none-lost ends)

-- all of them, or a front
pub losts-late : (es : List TrailEvent) (a : Addressed) (ends : List Target) (ds : List Bool) → AreApart ends → MayLose es a ends ds → DropsLate ends [] (es ++ Send a ∷ [])
    → DropsLate ends [] ((es ++ Send a ∷ []) ++ losts a ends ds)
losts-late es a ends ds apart may late =
    late-join ends [] (es ++ Send a ∷ []) (losts a ends ds) late (losts-late-behind ends es a [] ends ds tt apart (all-among ends) (none-lost ends) may)

pub front-late : (es : List TrailEvent) (a : Addressed) (ends : List Target) (ds : List Bool) (count : ℕ) → AreApart ends → MayLose es a ends ds → DropsLate ends [] (es ++ Send a ∷ [])
    → DropsLate ends [] ((es ++ Send a ∷ []) ++ take count (losts a ends ds))
front-late es a ends ds count apart may late =
    late-join ends [] (es ++ Send a ∷ []) (take count (losts a ends ds)) late
    (late-front ends (es ++ Send a ∷ []) (losts a ends ds) count (losts-late-behind ends es a [] ends ds tt apart (all-among ends) (none-lost ends) may))
