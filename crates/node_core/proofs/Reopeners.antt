-- How a restart that reads its parts one by one comes to the node after a restart from all of them.
use Rattle.std.proofs.Common.{◌≡◌, ℕ, ◌+◌, ◌<◌, ◌≤◌, ◌++◌, take, drop, get_or, true, List, [], ◌∷◌, length, refl, ap, sym, subst, ◌∙◌, arith, Option, Some, None, is_some, option_map, zero, suc, Result, Ok, Err}
use Rattle.std.specs.Result.{IsErrAnd}
use Rattle.smart_base.specs.Lists.{or_else}
use Rattle.smart_base.specs.Views.{View}
use Rattle.smart_service.specs.Services.{Meaning}
use Rattle.vote_book.specs.Books.{Among}
use Rattle.vote_book.specs.Entries.{entry_decoded}
use Rattle.vote_book.specs.declared.entry.LogEntry.{LogEntry}
use Rattle.vote_book.specs.declared.entry.LogEntry.TheVariants.{Accepted}
use Rattle.smart_service.specs.declared.replica.Replica.{Replica}
use Rattle.replica_rules.specs.Replicas.{managed_of}
use Rattle.node_rules.specs.Nodes.{Node}
use Rattle.node_rules.specs.Reopening.{damaged, entries_in, stopped, reopened, replica_from, damaged_behind, damage_of, or_empty, checkpoint_of, outset_from, reopened_from}
use Rattle.node_rules.specs.Steps.{Outset}
use Rattle.node_rules.specs.declared.node.Parts.{Parts}
use Rattle.node_rules.specs.declared.node.OwnSnapshot.{OwnSnapshot}
use Rattle.node_restart.specs.Restarts.{Restart, all_replayed, begun, taken, AreSound, HasRead}
use Rattle.node_restart.proofs.Replays.{takes_all, damaged_more, read_none, read_more, read_damaged}
use Rattle.node_opening.specs.Resuming.{gone_on}
use Rattle.node_core.specs.Reopeners.{Reopening, taken_after, read_on, next_number, IsDamaged, IsAfter}

-- ---- a node that goes on is the one that takes its entries back

back_is : {S : Type 0} (back : Restart S) (past : ℕ) (replica : Replica S) (es : List LogEntry) → back.past ≡ past → back.replica ≡ replica → back.entries ≡ es → back ≡ record { past = past; replica = replica; entries = es }
back_is back past replica es at so is = rw (← at, ← so, ← is) refl

resumed_by : {S : Type 0} (m : Meaning S) (o : Outset S) (back : Restart S) (es : List LogEntry) → back.past ≡ o.replica.place → back.replica ≡ all_replayed m o.replica.place o.replica es → back.entries ≡ es
    → gone_on o.secret o.member o.period back o.checkpoint ≡ reopened m o es
unfolding reopened
resumed_by {S = S} m o back [] at so is = ap (λ (b : Restart S). gone_on o.secret o.member o.period b o.checkpoint) (back_is back o.replica.place o.replica [] at so is)
resumed_by {S = S} m o back (e ∷ es) at so is =
    ap (λ (b : Restart S). gone_on o.secret o.member o.period b o.checkpoint) (back_is back o.replica.place (all_replayed m o.replica.place o.replica (e ∷ es)) (e ∷ es) at so is)
    ∙ sym (ap (λ (n : Node S). record n { restored = length (e ∷ es); firm = length (e ∷ es) }) (takes_all m o.replica.place (stopped o) (e ∷ es)))

-- ---- a restart, part by part

-- before it has read an entry, it has taken no accept
pub none_sound : {S : Type 0} (secret : List ℕ) (r : Replica S) (x : Restart S) → x ≡ begun r → AreSound secret x.entries
none_sound {S = S} secret r x is a there = absurd (subst (λ (y : Restart S). Among (Accepted a) y.entries) is there)

replica_as : {S : Type 0} (m : Meaning S) (view : View) (first : Option (Replica S)) (r : Replica S) → first ≡ Some r → r ≡ or_empty m view first
replica_as {S = S} m view first r is = sym (ap (λ (o : Option (Replica S)). or_empty m view o) is)

-- the snapshot of a checkpoint at a place
abbrev pub snapshot_at : ℕ → Option (List ℕ) → Option OwnSnapshot
snapshot_at place snapshot = option_map (λ bytes. record { place = place; snapshot = bytes; needs = 0 }) snapshot

pub at_place : (place at : ℕ) (snapshot : Option (List ℕ)) (own : Option OwnSnapshot) → own ≡ snapshot_at place snapshot → place ≡ at → own ≡ snapshot_at at snapshot
at_place place at snapshot own is same = is ∙ ap (λ k. snapshot_at k snapshot) same

checkpoint_same : {S : Type 0} (r : Replica S) (snapshot : Option (List ℕ))
    → snapshot_at r.place snapshot ≡ checkpoint_of (Some r) snapshot
checkpoint_same r None = refl
checkpoint_same r (Some bytes) = refl

pub after_none : {S : Type 0} (m : Meaning S) (secret : List ℕ) (id : ℕ) (view : View) (period : ℕ) (snapshot : Option (List ℕ)) (r : Replica S) (own : Option OwnSnapshot) (x : Reopening S)
    → replica_from m view snapshot ≡ Some r → own ≡ snapshot_at r.place snapshot
    → x ≡ record { member = id; secret = secret; period = period; checkpoint = own; restart = Some (begun r); damage = None } → IsAfter m (outset_from m secret id view period snapshot) [] x
after_none {S = S} m secret id view period snapshot r own x first own_is is =
    subst (λ (y : Reopening S). IsAfter m (outset_from m secret id view period snapshot) [] y) (sym is)
    (record {
      member = refl;
      secret = refl;
      period = refl;
      checkpoint = own_is ∙ (checkpoint_same r snapshot ∙ sym (ap (λ (f : Option (Replica S)). checkpoint_of f snapshot) first));
      whole = refl;
      back = begun r;
      going = refl;
      has = subst (λ (f : Replica S). HasRead m secret f [] (begun r)) (replica_as m view (replica_from m view snapshot) r first) (read_none m secret r);
    })

taken_is : {S : Type 0} (m : Meaning S) (o : Outset S) (read : List (List ℕ)) (bytes : List ℕ) (r : Reopening S) (is : IsAfter m o read r)
    → taken_after m r.secret r.restart (entry_decoded bytes) ≡ taken m o.secret is.back (entry_decoded bytes)
taken_is {S = S} m o read bytes r is =
    ap (λ (s : List ℕ). taken_after m s r.restart (entry_decoded bytes)) is.secret ∙ ap (λ (x : Option (Restart S)). taken_after m o.secret x (entry_decoded bytes)) is.going

more_by : {S : Type 0} (m : Meaning S) (o : Outset S) (read : List (List ℕ)) (bytes : List ℕ) (r : Reopening S) (is : IsAfter m o read r) (t : Option (Restart S))
    → taken_after m r.secret r.restart (entry_decoded bytes) ≡ t → is_some t ≡ true → IsAfter m o (read ++ bytes ∷ []) (read_on m r bytes)
more_by m o read bytes r is None at some = absurd (cc)
more_by m o read bytes r is (Some later) at some = record {
  member = is.member;
  secret = is.secret;
  period = is.period;
  checkpoint = is.checkpoint;
  whole = is.whole;
  back = later;
  going = at;
  has = read_more m o.secret o.replica read is.back later bytes is.has (sym (taken_is m o read bytes r is) ∙ at);
}

pub after_more : {S : Type 0} (m : Meaning S) (o : Outset S) (read : List (List ℕ)) (bytes : List ℕ) (r : Reopening S) → IsAfter m o read r
    → is_some (taken_after m r.secret r.restart (entry_decoded bytes)) ≡ true → IsAfter m o (read ++ bytes ∷ []) (read_on m r bytes)
after_more m o read bytes r is some = more_by m o read bytes r is (taken_after m r.secret r.restart (entry_decoded bytes)) refl some

some_same : (a b : ℕ) → ◌≡◌ {A = Option ℕ} (Some a) (Some b) → a ≡ b
some_same a b is = cc

untaken : {S : Type 0} (m : Meaning S) (o : Outset S) (read : List (List ℕ)) (bytes : List ℕ) (r : Reopening S) (entry : ℕ) → IsAfter m o read r
    → taken_after m r.secret r.restart (entry_decoded bytes) ≡ None → next_number r.restart ≡ Some entry → damaged o.secret o.replica.place (managed_of o.replica) (read ++ bytes ∷ []) ≡ Some entry
untaken {S = S} m o read bytes r entry is none number =
    let at : ◌≡◌ {A = Option ℕ} (Some entry) (Some (length is.back.entries + 1)) = sym number ∙ ap (λ (x : Option (Restart S)). next_number x) is.going in
    read_damaged m o.secret o.replica read is.back bytes entry is.has (sym (taken_is m o read bytes r is) ∙ none, some_same entry (length is.back.entries + 1) at)

pub after_damaged : {S : Type 0} (m : Meaning S) (o : Outset S) (read : List (List ℕ)) (bytes : List ℕ) (r : Reopening S) (entry : ℕ) → IsAfter m o read r → IsDamaged m r bytes entry
    → damaged o.secret o.replica.place (managed_of o.replica) (read ++ bytes ∷ []) ≡ Some entry
after_damaged m o read bytes r entry is damage =
    untaken m o read bytes r entry is (damage.1 is.whole) (sym (ap (λ (d : Option ℕ). or_else d (next_number r.restart)) is.whole) ∙ damage.0)

pub after_all : {S : Type 0} (m : Meaning S) (o : Outset S) (read : List (List ℕ)) (r : Reopening S) → IsAfter m o read r
    → option_map (λ (back : Restart S). gone_on r.secret r.member r.period back r.checkpoint) r.restart ≡ Some (reopened m o (entries_in read))
after_all {S = S} m o read r is =
    ap (λ (x : Option (Restart S)). option_map (λ (back : Restart S). gone_on r.secret r.member r.period back r.checkpoint) x) is.going
    ∙ ap (λ (n : Node S). Some n)
    (ap (λ (s : List ℕ). gone_on s r.member r.period is.back r.checkpoint) is.secret
    ∙ (ap (λ (k : ℕ). gone_on o.secret k r.period is.back r.checkpoint) is.member
    ∙ (ap (λ (k : ℕ). gone_on o.secret o.member k is.back r.checkpoint) is.period
    ∙ (ap (λ (c : Option OwnSnapshot). gone_on o.secret o.member o.period is.back c) is.checkpoint
    ∙ resumed_by m o is.back (entries_in read) is.has.past (is.has.replica ∙ ap (λ (es : List LogEntry). all_replayed m o.replica.place o.replica es) is.has.entries) is.has.entries))))

-- ---- going over what was restored

take_more : {A : Type 0} (xs : List A) (i : ℕ) (x : A) → i < length xs → x ≡ get_or xs i x → take i xs ++ x ∷ [] ≡ take (suc i) xs
take_more [] i x within is = absurd (omega (arith, within))
take_more (y ∷ ys) zero x within is = ap (λ z. z ∷ []) is
take_more (y ∷ ys) (suc i) x within is = ap (λ zs. y ∷ zs) (take_more ys i x (omega (arith, within)) is)

take_next : {A : Type 0} (xs : List A) (i : ℕ) (x read : A) → i < length xs → x ≡ get_or xs i x → read ≡ x → take i xs ++ read ∷ [] ≡ take (i + 1) xs
take_next {A} xs i x read within is same =
    let next : i + 1 ≡ suc i = omega arith in
    ap (λ (y : A). take i xs ++ y ∷ []) same ∙ (take_more xs i x within is ∙ ap (λ (j : ℕ). take j xs) (sym next))

pub take_past : {A : Type 0} (xs : List A) (i : ℕ) → length xs ≤ i → take i xs ≡ xs
take_past [] zero past = refl
take_past [] (suc i) past = refl
take_past (x ∷ xs) zero past = absurd (omega (arith, past))
take_past (x ∷ xs) (suc i) past = ap (λ ys. x ∷ ys) (take_past xs i (omega (arith, past)))

take_drop : {A : Type 0} (xs : List A) (i : ℕ) → take i xs ++ drop i xs ≡ xs
take_drop [] zero = refl
take_drop [] (suc i) = refl
take_drop (x ∷ xs) zero = refl
take_drop (x ∷ xs) (suc i) = ap (λ ys. x ∷ ys) (take_drop xs i)

pub after_next : {S : Type 0} (m : Meaning S) (o : Outset S) (all : List (List ℕ)) (i : ℕ) (item bytes : List ℕ) (r later : Reopening S) → i < length all → item ≡ get_or all i item → bytes ≡ item → IsAfter m o (take i all) r
    → later ≡ read_on m r bytes → is_some (taken_after m r.secret r.restart (entry_decoded bytes)) ≡ true → IsAfter m o (take (i + 1) all) later
after_next {S = S} m o all i item bytes r later within at same is next some =
    subst (λ (xs : List (List ℕ)). IsAfter m o xs later) (take_next all i item bytes within at same)
    (subst (λ (x : Reopening S). IsAfter m o (take i all ++ bytes ∷ []) x) (sym next) (after_more m o (take i all) bytes r is some))

pub damaged_next : {S : Type 0} (m : Meaning S) (o : Outset S) (all : List (List ℕ)) (i : ℕ) (item bytes : List ℕ) (r : Reopening S) (entry : ℕ) → i < length all → item ≡ get_or all i item → bytes ≡ item → IsAfter m o (take i all) r
    → IsDamaged m r bytes entry → damaged o.secret o.replica.place (managed_of o.replica) all ≡ Some entry
damaged_next m o all i item bytes r entry within at same is damage =
    let front : damaged o.secret o.replica.place (managed_of o.replica) (take (i + 1) all) ≡ Some entry =
    subst (λ (xs : List (List ℕ)). damaged o.secret o.replica.place (managed_of o.replica) xs ≡ Some entry) (take_next all i item bytes within at same)
    (after_damaged m o (take i all) bytes r entry is damage) in
    subst (λ (xs : List (List ℕ)). damaged o.secret o.replica.place (managed_of o.replica) xs ≡ Some entry) (take_drop all (i + 1))
    (damaged_more o.secret o.replica.place (managed_of o.replica) [] (take (i + 1) all) (drop (i + 1) all) entry front)

-- what `?` hands on is the fault that it was given
pub same_fault : {T U F : Type 0} (r : Result T F) (s : Result U F) (given fault : F) → r ≡ Err given → IsErrAnd s (λ x. x ≡ given) → s ≡ Err fault → r ≡ Err fault
same_fault r (Ok x) given fault was gives is = absurd gives
same_fault r (Err x) given fault was gives is = cc

-- ---- all parts

-- the snapshot among the parts is the one with which the restart began, and their entries are those that it read

pub begun_parts : {S : Type 0} (m : Meaning S) (secret : List ℕ) (id : ℕ) (view : View) (period : ℕ) (given held : Option (List ℕ)) (r : Reopening S) → given ≡ held
    → IsAfter m (outset_from m secret id view period given) [] r → IsAfter m (outset_from m secret id view period held) [] r
begun_parts m secret id view period given held r is begins = subst (λ (s : Option (List ℕ)). IsAfter m (outset_from m secret id view period s) [] r) is begins

pub some_parts : {S : Type 0} (m : Meaning S) (view : View) (given held : Option (List ℕ)) → given ≡ held → is_some (replica_from m view given) ≡ true → is_some (replica_from m view held) ≡ true
some_parts m view given held is some = subst (λ (s : Option (List ℕ)). is_some (replica_from m view s) ≡ true) is some

pub read_parts : {S : Type 0} (m : Meaning S) (o : Outset S) (read all : List (List ℕ)) (r : Reopening S) → read ≡ all → IsAfter m o read r → IsAfter m o all r
read_parts m o read all r is after = subst (λ (xs : List (List ℕ)). IsAfter m o xs r) is after

pub fault_parts : {S : Type 0} (o : Outset S) (read all : List (List ℕ)) (entry : ℕ) → read ≡ all → damaged o.secret o.replica.place (managed_of o.replica) read ≡ Some entry
    → damaged o.secret o.replica.place (managed_of o.replica) all ≡ Some entry
fault_parts o read all entry is damage = subst (λ (xs : List (List ℕ)). damaged o.secret o.replica.place (managed_of o.replica) xs ≡ Some entry) is damage

whole_by : {S : Type 0} (m : Meaning S) (secret : List ℕ) (view : View) (entries : List (List ℕ)) (first : Option (Replica S)) → is_some first ≡ true
    → damaged secret (or_empty m view first).place (managed_of (or_empty m view first)) entries ≡ None → damaged_behind secret entries first ≡ None
whole_by m secret view entries None some is = absurd (cc)
whole_by m secret view entries (Some r) some is = is

pub whole_parts : {S : Type 0} (m : Meaning S) (secret : List ℕ) (id : ℕ) (view : View) (period : ℕ) (parts : Parts) (r : Reopening S) → is_some (replica_from m view parts.snapshot) ≡ true
    → IsAfter m (outset_from m secret id view period parts.snapshot) parts.entries r → damage_of m secret view parts ≡ None
unfolding damage_of
whole_parts m secret id view period parts r some is = whole_by m secret view parts.entries (replica_from m view parts.snapshot) some is.has.whole

damage_by : {S : Type 0} (m : Meaning S) (secret : List ℕ) (view : View) (entries : List (List ℕ)) (entry : ℕ) (first : Option (Replica S)) → is_some first ≡ true
    → damaged secret (or_empty m view first).place (managed_of (or_empty m view first)) entries ≡ Some entry → damaged_behind secret entries first ≡ Some entry
damage_by m secret view entries entry None some is = absurd (cc)
damage_by m secret view entries entry (Some r) some is = is

pub damaged_parts : {S : Type 0} (m : Meaning S) (secret : List ℕ) (id : ℕ) (view : View) (period : ℕ) (parts : Parts) (entry : ℕ) → is_some (replica_from m view parts.snapshot) ≡ true
    → damaged secret (outset_from m secret id view period parts.snapshot).replica.place (managed_of (outset_from m secret id view period parts.snapshot).replica) parts.entries ≡ Some entry
    → damage_of m secret view parts ≡ Some entry
unfolding damage_of
damaged_parts m secret id view period parts entry some is = damage_by m secret view parts.entries entry (replica_from m view parts.snapshot) some is

pub damaged_first : {S : Type 0} (m : Meaning S) (secret : List ℕ) (view : View) (parts : Parts) (entry : ℕ) → entry ≡ 0 → replica_from m view parts.snapshot ≡ None → damage_of m secret view parts ≡ Some entry
unfolding damage_of
damaged_first {S = S} m secret view parts entry zero_is none = ap (λ (o : Option (Replica S)). damaged_behind secret parts.entries o) none ∙ ap (λ (n : ℕ). Some n) (sym zero_is)

node_is : {S : Type 0} (a b : Node S) → Some a ≡ Some b → b ≡ a
node_is a b is = cc

pub node_parts : {S : Type 0} (m : Meaning S) (secret : List ℕ) (id : ℕ) (view : View) (period : ℕ) (parts : Parts) (r : Reopening S) (n : Node S) → IsAfter m (outset_from m secret id view period parts.snapshot) parts.entries r
    → option_map (λ (back : Restart S). gone_on r.secret r.member r.period back r.checkpoint) r.restart ≡ Some n → n ≡ reopened_from m secret id view period parts
unfolding reopened_from
node_parts m secret id view period parts r n is made =
    node_is (reopened m (outset_from m secret id view period parts.snapshot) (entries_in parts.entries)) n (sym (after_all m (outset_from m secret id view period parts.snapshot) parts.entries r is) ∙ made)
