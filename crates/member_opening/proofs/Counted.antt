-- How many entries a node has that restarts from parts.
use Rattle.std.proofs.Common.{◌≡◌, ◌∙◌, ℕ, suc, List, [], ◌∷◌, ◌++◌, length, Bool, true, false, Option, Some, None, Result, Ok, Err, refl, sym, ap, subst, arith, append_assoc, append-nil, if◌then◌else◌}
use Rattle.std.specs.List.{cons_option}
use Rattle.smart_service.specs.Services.{Meaning}
use Rattle.smart_service.specs.declared.replica.Replica.{Replica}
use Rattle.vote_book.specs.Entries.{entry_decoded}
use Rattle.vote_book.specs.declared.entry.LogEntry.{LogEntry}
use Rattle.replica_rules.specs.Replicas.{Managed, managed_of}
use Rattle.node_rules.specs.Nodes.{Node}
use Rattle.node_rules.specs.Reopening.{damage_at, damaged_from, damaged_behind, damage_of, entries_in, entry_of, takes_back, takes_all_back, stopped, reopened, reopened_from, replica_from, outset_from}
use Rattle.node_rules.specs.Steps.{Outset}
use Rattle.node_rules.specs.declared.node.Parts.{Parts}
use Rattle.member_opening.specs.Restorings.{KeepsCounts, node_by}
use Rattle.member_opening.specs.declared.settings.Settings.{Settings}

if-none : (b : Bool) (x : Option ℕ) (k : ℕ) → (if b then x else Some k) ≡ None → x ≡ None
if-none true x k e = e
if-none false x k e = cc

one-read : (secret : List ℕ) (opening : ℕ) (g : Managed) (before : List LogEntry) (behind : LogEntry → Option ℕ) (more : List LogEntry) (n : ℕ) (read : Result LogEntry ℕ)
    → damage_at secret opening g before behind read ≡ None → ((e : LogEntry) → behind e ≡ None → length more ≡ n) → length (cons_option (entry_of read) more) ≡ suc n
one-read secret opening g before behind more n (Err at) none rest = cc
one-read secret opening g before behind more n (Ok e) none rest = ap suc (rest e (if-none _ (behind e) _ none))

-- each of the bytes is an entry
all-read : (secret : List ℕ) (opening : ℕ) (g : Managed) (before : List LogEntry) (bytes : List (List ℕ))
    → damaged_from secret opening g before bytes ≡ None → length (entries_in bytes) ≡ length bytes
all-read secret opening g before [] none = refl
all-read secret opening g before (b ∷ rest) none =
    one-read secret opening g before (λ e. damaged_from secret opening g (before ++ e ∷ []) rest) (entries_in rest) (length rest) (entry_decoded b) none
    (λ e h. all-read secret opening g (before ++ e ∷ []) rest h)

-- the entries that a restart takes back are those that it was given
all-taken : {S : Type 0} (m : Meaning S) (past : ℕ) (n : Node S) (entries : List LogEntry) → (takes_all_back m past n entries).entries ≡ n.entries ++ entries
all-taken m past n [] = sym (append-nil n.entries)
all-taken m past n (e ∷ es) = all-taken m past (takes_back m past n e) es ∙ append_assoc n.entries (e ∷ []) es

reopened-counts : {S : Type 0} (m : Meaning S) (o : Outset S) (entries : List LogEntry) → KeepsCounts (length entries) (reopened m o entries)
unfolding reopened
reopened-counts m o [] = record { restored = refl; firm = refl; some = omega arith; one = omega arith }
reopened-counts m o (e ∷ es) =
    let all = ap length (all-taken m o.replica.place (stopped o) (e ∷ es)) in
    record { restored = refl; firm = refl; some = omega (arith, all); one = omega (arith, all) }

counted-behind : {S : Type 0} (secret : List ℕ) (entries : List (List ℕ)) (r : Option (Replica S)) → damaged_behind secret entries r ≡ None → length (entries_in entries) ≡ length entries
counted-behind secret entries None none = cc
counted-behind secret entries (Some r) none = all-read secret r.place (managed_of r) [] entries none

pub kept_counts : {S : Type 0} (m : Meaning S) (s : Settings) (parts : Parts) → damage_of m s.secret s.view parts ≡ None → KeepsCounts (length parts.entries) (node_by m s parts)
unfolding damage_of reopened_from
kept_counts m s parts none =
    subst (λ k. KeepsCounts k (reopened m (outset_from m s.secret s.member s.view s.period parts.snapshot) (entries_in parts.entries))) (counted-behind s.secret parts.entries (replica_from m s.view parts.snapshot) none)
    (reopened-counts m (outset_from m s.secret s.member s.view s.period parts.snapshot) (entries_in parts.entries))
