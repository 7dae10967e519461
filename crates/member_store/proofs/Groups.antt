-- Entries of a member's book are short, and so many of them are a group.
use Rattle.std.proofs.Common.{◌≡◌, ℕ, ◌+◌, ◌*◌, ◌^◌, ◌<◌, ◌≤◌, ◌++◌, List, [], ◌∷◌, length, length-append, refl, true, Option, Some, None, arith}
use Rattle.std.specs.Int.{w16, w32}
use Rattle.std.specs.List.{flat_map, AllByRecursion}
use Rattle.std.specs.Prelude.{map}
use Rattle.smart_base.proofs.ViewLaws.{members-few}
use Rattle.smart_base.specs.Lists.{Each}
use Rattle.smart_base.specs.Spelling.{u16, u32, behind, IsTag}
use Rattle.smart_base.specs.Views.{View, is_view}
use Rattle.smart_base.specs.ViewBytes.{view_text}
use Rattle.smart_statements.specs.Forms.{Form, SignedBy}
use Rattle.smart_statements.specs.Batches.{batch_text}
use Rattle.smart_statements.specs.Reports.{votes_of, FitsVote, marks, mark, FitsMark}
use Rattle.smart_statements.specs.SignedLists.{listed, FitsList, optional, FitsOptional}
use Rattle.smart_statements.specs.Spelling.{signed, ballot, FitsSigned}
use Rattle.smart_statements.specs.declared.report.Mark.{Mark}
use Rattle.smart_statements.specs.declared.statement.Ballot.{Ballot}
use Rattle.smart_statements.specs.declared.statement.VoteKind.{VoteKind}
use Rattle.smart_statements.specs.declared.statement.VoteKind.TheVariants.{Write, Accept}
use Rattle.store_form.specs.Spelling.{IsEntry, IsGroup, payload}
use Rattle.vote_book.specs.Entries.{FitsEntry, entry_text}
use Rattle.vote_book.specs.declared.entry.LogEntry.{LogEntry}
use Rattle.vote_book.specs.declared.entry.LogEntry.TheVariants.{Opened, Wrote, Accepted, Promised, Synced, Decided, Installed, Marked}

-- ---- parts of entries

members_length : (members : List ℕ) → length (flat_map u16 members) ≡ 2 * length members
members_length [] = omega arith
members_length (m ∷ ms) = let rest = members_length ms in let both = length-append (u16 m) (flat_map u16 ms) in omega (arith, rest, both)

view_length : (v : View) → is_view v ≡ true → length (view_text v) ≤ 77
unfolding view_text
view_length v is = let few = members-few v is in let long = members_length v.members in omega (arith, few, long)

signed_length : {A : Type 0} (form : Form A) (s : SignedBy A) → IsTag s.tag → length (signed form s) ≤ 4105 + length (form.spell s.statement)
signed_length form s tag = omega (arith, length-append (form.spell s.statement) (behind w16 s.tag), tag)

-- a list of short statements
items_length : {A : Type 0} (form : Form A) (fits : ℕ → A → Type 0) → ((signer : ℕ) (s : A) → fits signer s → length (form.spell s) ≤ 49) → (xs : List (SignedBy A))
    → AllByRecursion (FitsSigned form fits) xs → length (flat_map (signed form) xs) ≤ 4154 * length xs
items_length form fits short [] all = omega arith
items_length form fits short (x ∷ xs) all =
    let text = short x.signer x.statement all.0.statement_fits in
    let one = signed_length form x all.0.tag_fits in
    let rest = items_length form fits short xs all.1 in
    let both = length-append (signed form x) (flat_map (signed form) xs) in
    omega (arith, text, one, rest, both)

listed_length : {A : Type 0} (form : Form A) (fits : ℕ → A → Type 0) → ((signer : ℕ) (s : A) → fits signer s → length (form.spell s) ≤ 49) → (xs : List (SignedBy A))
    → FitsList form fits xs → length (listed form xs) ≤ 272236546
listed_length form fits short xs fit = let few = fit.0 in let all = items_length form fits short xs fit.1 in omega (arith, few, all)

votes_length : (kind : VoteKind) (xs : List (SignedBy Ballot)) → FitsList (votes_of kind) (λ signer. FitsVote kind) xs → length (listed (votes_of kind) xs) ≤ 272236546
votes_length kind xs fit = listed_length (votes_of kind) (λ signer. FitsVote kind) (λ signer b is. ballot_length b is.ballot_fits.digest_fits) xs fit
  where
    ballot_length : (b : Ballot) → length b.digest ≡ 32 → length (ballot b) ≤ 49
    ballot_length b digest = omega (arith, digest)

marks_length : (xs : List (SignedBy Mark)) → FitsList marks (λ signer. FitsMark) xs → length (listed marks xs) ≤ 272236546
marks_length xs fit = listed_length marks (λ signer. FitsMark) (λ signer m is. mark_length m is.digest_fits) xs fit
  where
    mark_length : (m : Mark) → length m.digest ≡ 32 → length (mark m) ≤ 49
    mark_length m digest = omega (arith, digest)

bound_length : (bound : Option (List ℕ)) → FitsOptional (λ d. length d ≡ 32) bound → length (optional (λ (d : List ℕ). d) bound) ≤ 33
bound_length None fit = omega arith
bound_length (Some d) fit = omega (arith, fit)

-- ---- entries

pub entry_small : (e : LogEntry) → FitsEntry e → length (entry_text e) < 2 ^ 29
unfolding entry_text
entry_small (Opened o) fit = let view = view_length o.view fit.view_fits in omega (arith, view)
entry_small (Wrote w) fit = let digest = fit.digest_fits in omega (arith, digest)
entry_small (Accepted a) fit =
    let digest = fit.digest_fits in
    let writes = votes_length Write a.writes fit.writes_fit in
    let batch = fit.batch_fits.bytes_fit in
    let both = length-append (listed (votes_of Write) a.writes) (batch_text a.batch) in
    let all = length-append a.digest (listed (votes_of Write) a.writes ++ batch_text a.batch) in
    omega (arith, digest, writes, batch, both, all)
entry_small (Promised p) fit = omega arith
entry_small (Synced s) fit = let bound = bound_length s.bound fit.bound_fits in omega (arith, bound)
entry_small (Decided d) fit =
    let accepts = votes_length Accept d.accepts fit.accepts_fit in
    let batch = fit.batch_fits.bytes_fit in
    let both = length-append (batch_text d.batch) (listed (votes_of Accept) d.accepts) in
    omega (arith, accepts, batch, both)
entry_small (Installed i) fit =
    let digest = fit.digest_fits in
    let long = marks_length i.marks fit.marks_fit in
    let both = length-append i.digest (u32 i.view ++ listed marks i.marks) in
    omega (arith, digest, long, both)
entry_small (Marked m) fit = let digest = fit.digest_fits in omega (arith, digest)

-- ---- groups

each_entry : (es : List LogEntry) → Each FitsEntry es → Each IsEntry (map entry_text es)
each_entry [] fits = tt
each_entry (e ∷ es) fits = (let small = entry_small e fits.0 in omega (arith, small), each_entry es fits.1)

map_length : (es : List LogEntry) → length (map entry_text es) ≡ length es
map_length [] = refl
map_length (e ∷ es) = let rest = map_length es in omega (arith, rest)

entries_length : (es : List LogEntry) → Each FitsEntry es → length (flat_map (λ entry. behind w32 entry) (map entry_text es)) ≤ 536870916 * length es
entries_length [] fits = omega arith
entries_length (e ∷ es) fits =
    let small = entry_small e fits.0 in
    let rest = entries_length es fits.1 in
    let both = length-append (behind w32 (entry_text e)) (flat_map (λ entry. behind w32 entry) (map entry_text es)) in
    omega (arith, small, rest, both)

-- entries with a spelling are a group
pub group_fits : (es : List LogEntry) → Each FitsEntry es → length es < 2 ^ 28 → IsGroup (map entry_text es)
unfolding payload
group_fits es fits few =
    let same = map_length es in
    let long = entries_length es fits in
    record { few = omega (arith, same, few); each = each_entry es fits; small = omega (arith, long, few) }
