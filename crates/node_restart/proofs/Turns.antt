-- An entry that may be restored makes no place but the one at which the replica then stands, or one that the first replica has.
use Rattle.std.proofs.Common.{◌≡◌, ℕ, ◌+◌, ◌≤◌, ◌<◌, ◌&&◌, ◌||◌, ◌++◌, max, not, nat_lt, nat_le, Bool, true, false, cond, List, [], ◌∷◌, length, refl, ap, sym, ◌∙◌, arith, Option, Some, None}
use Rattle.std.proofs.lemmas.Bool.{eqb-true, ltb-true, ltb-false, leb-true, lt-ltb, le-ltb}
use Rattle.std.specs.List.{cons_option}
use Rattle.smart_base.specs.Lists.{or_else}
use Rattle.smart_base.specs.Views.{View}
use Rattle.smart_base.proofs.SameLists.{and_true}
use Rattle.vote_book.specs.Admission.{follows, is_above, may_install}
use Rattle.smart_service.specs.Services.{Meaning}
use Rattle.smart_service.specs.declared.replica.Replica.{Replica}
use Rattle.vote_book.specs.Books.{Book, begun, pushed, number_or, place_made, latest_made, last_made}
use Rattle.vote_book.proofs.Last.{latest_push, last_push}
use Rattle.vote_book.specs.declared.entry.Decision.{Decision}
use Rattle.vote_book.specs.declared.entry.Installation.{Installation}
use Rattle.vote_book.specs.declared.entry.LogEntry.{LogEntry}
use Rattle.vote_book.specs.declared.entry.LogEntry.TheVariants.{Opened, Wrote, Accepted, Promised, Synced, Decided, Installed, Marked}
use Rattle.replica_rules.specs.Replicas.{after_batches, delivered}
use Rattle.node_rules.specs.Reopening.{opens_first, rests}
use Rattle.node_restart.specs.Restarts.{IsInTurn, may_take, place_behind, place_by, replayed, IsReplayed}

-- a decision

follows_next : (past : ℕ) (o : Option ℕ) (at place : ℕ) → max past (number_or o 0) ≡ place → follows past o at ≡ true → max past at ≡ cond (nat_lt past at) (place + 1) place
follows_next past None at place stands is = by (nat_lt past at) refl
  where
    by : (t : Bool) → nat_lt past at ≡ t → max past at ≡ cond t (place + 1) place
    by true later = let most : at ≤ past + 1 = leb-true at (past + 1) is in let lt : past < at = ltb-true past at later in omega (arith, stands, most, lt)
    by false later = let least : at ≤ past = ltb-false past at later in omega (arith, stands, least)
follows_next past (Some l) at place stands is = by (nat_lt past at) refl
  where
    by : (t : Bool) → nat_lt past at ≡ t → max past at ≡ cond t (place + 1) place
    by true later = let e : at ≡ l + 1 = eqb-true at (l + 1) is in let lt : past < at = ltb-true past at later in omega (arith, stands, e, lt)
    by false later = let e : at ≡ l + 1 = eqb-true at (l + 1) is in let least : at ≤ past = ltb-false past at later in omega (arith, stands, e, least)

decides_next : (secret : List ℕ) (views : List View) (past : ℕ) (entries : List LogEntry) (d : Decision) (place : ℕ) → may_take secret views past entries (Decided d) ≡ true
    → max past (number_or (latest_made entries) 0) ≡ place → IsInTurn past place (Decided d)
decides_next secret views past entries d place is stands =
    let e1 = and_true (opens_first entries (Decided d) && follows past (latest_made entries) d.slot.place) (rests secret views (Decided d)) is in
    let e2 = and_true (opens_first entries (Decided d)) (follows past (latest_made entries) d.slot.place) e1.0 in
    follows_next past (latest_made entries) d.slot.place place stands e2.1

-- an installation

nothing_over : (n at past : ℕ) → (not (nat_lt n (n + 1)) || nat_le at past) ≡ true → at ≤ past
nothing_over n at past is = by (nat_lt n (n + 1)) refl is
  where
    by : (t : Bool) → nat_lt n (n + 1) ≡ t → (not t || nat_le at past) ≡ true → at ≤ past
    by true lt is = leb-true at past is
    by false lt is = let least : n + 1 ≤ n = ltb-false n (n + 1) lt in absurd (omega (arith, least))

above_none : (o : Option ℕ) (last at past place : ℕ) → max past (number_or o 0) ≡ place → max past last ≡ place → is_above o last at ≡ true → at ≤ past → max past at ≡ place
above_none None last at past place stands ends above most = omega (arith, stands, most)
above_none (Some l) last at past place stands ends above most = let lt : last < at = ltb-true last at above in omega (arith, ends, most, lt)

installs_here : (secret : List ℕ) (views : List View) (past : ℕ) (entries : List LogEntry) (i : Installation) (place : ℕ) → may_take secret views past entries (Installed i) ≡ true
    → max past (number_or (latest_made entries) 0) ≡ place → max past (last_made entries) ≡ place → max past i.place ≡ place
installs_here secret views past entries i place is stands ends =
    let e1 = and_true (opens_first entries (Installed i) && may_install past (length entries + 1) entries i.place) (rests secret views (Installed i)) is in
    let e2 = and_true (opens_first entries (Installed i)) (may_install past (length entries + 1) entries i.place) e1.0 in
    let e3 = and_true (is_above (latest_made entries) (last_made entries) i.place) (not (nat_lt (length entries) (length entries + 1)) || nat_le i.place past) e2.1 in
    above_none (latest_made entries) (last_made entries) i.place past place stands ends e3.0 (nothing_over (length entries) i.place past e3.1)

pub in_turn : (secret : List ℕ) (views : List View) (past : ℕ) (entries : List LogEntry) (place : ℕ) (e : LogEntry) → may_take secret views past entries e ≡ true
    → max past (number_or (latest_made entries) 0) ≡ place → max past (last_made entries) ≡ place → IsInTurn past place e
in_turn secret views past entries place (Opened o) is stands ends = refl
in_turn secret views past entries place (Wrote w) is stands ends = refl
in_turn secret views past entries place (Accepted a) is stands ends = refl
in_turn secret views past entries place (Promised p) is stands ends = refl
in_turn secret views past entries place (Synced s) is stands ends = refl
in_turn secret views past entries place (Decided d) is stands ends = decides_next secret views past entries d place is stands
in_turn secret views past entries place (Installed i) is stands ends = installs_here secret views past entries i place is stands ends
in_turn secret views past entries place (Marked m) is stands ends = refl

-- a decision past the first replica's place is delivered, another one is not

pub replayed_past : {S : Type 0} (m : Meaning S) (past : ℕ) (r : Replica S) (d : Decision) → past < d.slot.place → replayed m past r (Decided d) ≡ delivered m r d.batch
replayed_past m past r d later = ap (λ (b : Bool). after_batches m r (cons_option (cond b (Some d.batch) None) [])) (lt-ltb past d.slot.place later)

pub replayed_before : {S : Type 0} (m : Meaning S) (past : ℕ) (r : Replica S) (d : Decision) → d.slot.place ≤ past → replayed m past r (Decided d) ≡ r
replayed_before m past r d least = ap (λ (b : Bool). after_batches m r (cons_option (cond b (Some d.batch) None) [])) (le-ltb past d.slot.place least)

pub place_past : (past place : ℕ) (d : Decision) → past < d.slot.place → place_behind past place (Decided d) ≡ place + 1
place_past past place d later = ap (λ (b : Bool). cond b (place + 1) place) (lt-ltb past d.slot.place later)

pub place_before : (past place : ℕ) (d : Decision) → d.slot.place ≤ past → place_behind past place (Decided d) ≡ place
place_before past place d least = ap (λ (b : Bool). cond b (place + 1) place) (le-ltb past d.slot.place least)

pub next_past : (past place : ℕ) (d : Decision) → IsInTurn past place (Decided d) → past < d.slot.place → d.slot.place ≡ place + 1
next_past past place d turn later =
    let at : max past d.slot.place ≡ place + 1 = turn ∙ place_past past place d later in omega (arith, at, later)

-- where the replica then stands

by_either : (past place : ℕ) (a b : Option ℕ) → max past (number_or b 0) ≡ place → max past (number_or (or_else a b) 0) ≡ place_by past place a
by_either past place None b stands = stands
by_either past place (Some a) b stands = refl

pub latest_after : (past : ℕ) (entries : List LogEntry) (e : LogEntry) (place : ℕ) → max past (number_or (latest_made entries) 0) ≡ place → IsInTurn past place e
    → max past (number_or (latest_made (entries ++ e ∷ [])) 0) ≡ place_behind past place e
latest_after past entries e place stands turn =
    ap (λ (o : Option ℕ). max past (number_or o 0)) (latest_push entries e) ∙ (by_either past place (place_made e) (latest_made entries) stands ∙ turn)

not_less : (t : Bool) (place : ℕ) → place ≤ cond t (place + 1) place
not_less true place = omega arith
not_less false place = omega arith

not_back : (past place : ℕ) (e : LogEntry) → place ≤ place_behind past place e
not_back past place (Opened o) = omega arith
not_back past place (Wrote w) = omega arith
not_back past place (Accepted a) = omega arith
not_back past place (Promised p) = omega arith
not_back past place (Synced s) = omega arith
not_back past place (Decided d) = not_less (nat_lt past d.slot.place) place
not_back past place (Installed i) = omega arith
not_back past place (Marked m) = omega arith

greatest_after : (past last place behind : ℕ) (o : Option ℕ) → max past last ≡ place → place_by past place o ≡ behind → place ≤ behind → max past (max last (number_or o 0)) ≡ behind
greatest_after past last place behind None ends turn most = omega (arith, ends, turn)
greatest_after past last place behind (Some made) ends turn most = omega (arith, ends, turn, most)

pub last_after : (past : ℕ) (entries : List LogEntry) (e : LogEntry) (place : ℕ) → max past (last_made entries) ≡ place → IsInTurn past place e
    → max past (last_made (entries ++ e ∷ [])) ≡ place_behind past place e
last_after past entries e place ends turn =
    ap (λ (n : ℕ). max past n) (last_push entries e)
    ∙ greatest_after past (last_made entries) place (place_behind past place e) (place_made e) ends turn (not_back past place e)

-- the replica with which a restart begins, and its book
pub begun_replayed : {S : Type 0} (past : ℕ) (r : Replica S) (spent : Bool) (b : Book) → past ≡ r.place → spent ≡ false → b ≡ begun past → IsReplayed past r spent b
begun_replayed past r spent b at whole is = rw is (record { whole = whole; opening = refl; restored = refl; latest = omega (arith, at); last = omega (arith, at) })

-- the replica and the book with one entry more
pub replayed_after : {S : Type 0} (past : ℕ) (old new : Replica S) (spent later : Bool) (b c : Book) (e : LogEntry) → IsReplayed past old spent b → later ≡ false → new.place ≡ place_behind past old.place e → c ≡ pushed b e
    → IsInTurn past old.place e → IsReplayed past new later c
replayed_after past old new spent later b c e is whole stands grown turn =
    rw grown (record {
      whole = whole;
      opening = is.opening;
      restored = is.restored;
      latest = latest_after past b.entries e old.place is.latest turn ∙ sym stands;
      last = last_after past b.entries e old.place is.last turn ∙ sym stands;
    })
