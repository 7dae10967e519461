-- What messages state is closed: what stands in a statement of theirs, stands in them.
use Rattle.std.proofs.Common.{◌≡◌, inl, inr, ⊎_elim, ℕ, true, List, [], ◌∷◌, ◌++◌, map, sym, subst}
use Rattle.std.specs.Prelude.{Option, None, Some}
use Rattle.std.specs.List.{flat_map}
use Rattle.smart_statements.specs.Forms.{SignedBy}
use Rattle.smart_statements.specs.declared.statement.Ballot.{Ballot}
use Rattle.smart_statements.specs.declared.report.Mark.{Mark}
use Rattle.smart_statements.specs.declared.report.LockCertificate.{LockCertificate}
use Rattle.smart_statements.specs.declared.report.Evidence.{Evidence}
use Rattle.smart_statements.specs.declared.report.Evidence.TheVariants as evidence
use Rattle.smart_statements.specs.declared.report.Report.{Report}
use Rattle.smart_messages.specs.declared.message.Message.{Message}
use Rattle.vote_book.specs.Books.{Among}
use Rattle.agreement_laws.specs.Statements.{Statement, Voted, Reported, Synced, Marked, verifies, parts_of_evidence, parts_of_lock, in_report, within, said, statements, IsClosed}
use Rattle.agreement_laws.proofs.Lists.{among_either, given, within_one, among_flat, among_filtered, among_filter}

-- nothing stands in a vote, nor in a mark

in_votes : (votes : List (SignedBy Ballot)) (statement part : Statement) → Among statement (map Voted votes) → Among part (within statement) → part ≡ statement
in_votes votes statement part there inside =
    let found = given Voted votes statement there in
    let one : Among part (Voted found.value ∷ []) = subst (λ (s : Statement). Among part (within s)) found.is inside in
    ⊎_elim (λ (is : part ≡ Voted found.value). rw (found.is) is) (λ none. absurd none) one

in_marks : (marks : List (SignedBy Mark)) (statement part : Statement) → Among statement (map Marked marks) → Among part (within statement) → part ≡ statement
in_marks marks statement part there inside =
    let found = given Marked marks statement there in
    let one : Among part (Marked found.value ∷ []) = subst (λ (s : Statement). Among part (within s)) found.is inside in
    ⊎_elim (λ (is : part ≡ Marked found.value). rw (found.is) is) (λ none. absurd none) one

in_evidence : (e : Evidence) (statement part : Statement) → Among statement (parts_of_evidence e) → Among part (within statement) → part ≡ statement
in_evidence evidence.Nothing statement part there inside = absurd there
in_evidence (evidence.Decided p) statement part there inside = in_votes p.accepts statement part there inside
in_evidence (evidence.Marked m) statement part there inside = in_marks m.marks statement part there inside

in_lock : (lock : Option LockCertificate) (statement part : Statement) → Among statement (parts_of_lock lock) → Among part (within statement) → part ≡ statement
in_lock None statement part there inside = absurd there
in_lock (Some l) statement part there inside = in_votes l.writes statement part there inside

-- what stands in a part of a report stands in the report
through_report : (r : SignedBy Report) (statement part : Statement) → Among statement (in_report r) → Among part (within statement) → Among part (in_report r)
through_report r statement part (inl is) inside = subst (λ (s : Statement). Among part (within s)) is inside
through_report r statement part (inr there) inside =
    let same : part ≡ statement =
    ⊎_elim (λ l. in_evidence r.statement.evidence statement part l inside) (λ k. in_lock r.statement.lock statement part k inside)
    (among_either statement (parts_of_evidence r.statement.evidence) (parts_of_lock r.statement.lock) there)
    in
    inr (subst (λ (s : Statement). Among s (parts_of_evidence r.statement.evidence ++ parts_of_lock r.statement.lock)) (sym same) there)

-- what stands in a statement that is the whole
through_itself : (whole statement part : Statement) → statement ≡ whole → Among part (within statement) → Among part (within whole)
through_itself whole statement part is inside = subst (λ (s : Statement). Among part (within s)) is inside

alone : (whole statement part : Statement) → Among statement (whole ∷ []) → Among part (within statement) → Among part (within whole)
alone whole statement part (inl is) inside = through_itself whole statement part is inside
alone whole statement part (inr none) inside = absurd none

-- what stands in a part of a statement stands in the statement
through : (whole statement part : Statement) → Among statement (within whole) → Among part (within statement) → Among part (within whole)
through (Reported r) statement part there inside = through_report r statement part there inside
through (Synced s) statement part (inl is) inside = through_itself (Synced s) statement part is inside
through (Synced s) statement part (inr there) inside =
    let found = within_one in_report s.statement.collect statement there in
    inr (among_flat in_report s.statement.collect found.value part found.there (through_report found.value statement part found.within inside))
through whole statement part there inside = alone whole statement part there inside

in_message : (secret : List ℕ) (m : Message) (statement part : Statement) → Among statement (statements secret m) → Among part (within statement)
    → verifies secret part ≡ true → Among part (statements secret m)
in_message secret m statement part there inside verified =
    let all = flat_map within (said m) in
    let found = within_one within (said m) statement (among_filtered (verifies secret) all statement there) in
    among_filter (verifies secret) all part (among_flat within (said m) found.value part found.there (through found.value statement part found.within inside)) verified

pub closed : (secret : List ℕ) (messages : List Message) → IsClosed secret (flat_map (statements secret) messages)
closed secret messages statement part there inside verified =
    let found = within_one (statements secret) messages statement there in
    among_flat (statements secret) messages found.value part found.there (in_message secret found.value statement part found.within inside verified)
