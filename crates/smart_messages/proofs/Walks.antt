-- The walk over a message hands out each statement that stands in it.
use Rattle.std.proofs.Common.{◌≡◌, List, [], ◌∷◌, ◌++◌, map, Option, Some, None, refl, ap, sym, ◌∙◌, append_assoc}
use Rattle.std.proofs.lemmas.List.{append-nil}
use Rattle.std.specs.List.{flat_map}
use Rattle.smart_statements.specs.Forms.{SignedBy}
use Rattle.smart_statements.specs.Kinds.{requests, proposals, ballots}
use Rattle.smart_statements.specs.Batches.{Batch}
use Rattle.smart_statements.specs.Reports.{marks, reports}
use Rattle.smart_statements.specs.declared.statement.Ballot.{Ballot}
use Rattle.smart_statements.specs.declared.statement.Proposal.{Proposal}
use Rattle.smart_statements.specs.declared.report.Mark.{Mark}
use Rattle.smart_statements.specs.declared.report.Report.{Report}
use Rattle.smart_messages.specs.Regencies.{syncs}
use Rattle.smart_messages.specs.Messages.{Statement, Asked, Proposed, Voted, Marked, Reported, Synced, sealed, sealed_of, within, in_report, requests_of, parts_of_evidence, parts_of_lock}
use Rattle.smart_messages.specs.declared.regency.Sync.{Sync}
use Rattle.smart_messages.specs.declared.message.Sealed.{Sealed}

map-append : {A C : Type 0} (f : A → C) (xs ys : List A) → map f (xs ++ ys) ≡ map f xs ++ map f ys
map-append f [] ys = refl
map-append f (x ∷ xs) ys = ap (λ zs. f x ∷ zs) (map-append f xs ys)

-- ---- several of one kind

pub voted_are : (bs : List (SignedBy Ballot)) → map sealed_of (map Voted bs) ≡ map (sealed ballots) bs
voted_are [] = refl
voted_are (b ∷ bs) = ap (λ xs. sealed ballots b ∷ xs) (voted_are bs)

pub marked_are : (ms : List (SignedBy Mark)) → map sealed_of (map Marked ms) ≡ map (sealed marks) ms
marked_are [] = refl
marked_are (m ∷ ms) = ap (λ xs. sealed marks m ∷ xs) (marked_are ms)

pub asked_are : (qs : Batch) → map sealed_of (map Asked qs) ≡ map (sealed requests) qs
asked_are [] = refl
asked_are (q ∷ qs) = ap (λ xs. sealed requests q ∷ xs) (asked_are qs)

within_asked : (qs : Batch) → flat_map within (map Asked qs) ≡ map Asked qs
within_asked [] = refl
within_asked (q ∷ qs) = ap (λ xs. Asked q ∷ xs) (within_asked qs)

within_requests : (batch : Option Batch) → flat_map within (requests_of batch) ≡ requests_of batch
within_requests None = refl
within_requests (Some qs) = within_asked qs

-- ---- one behind the other

-- those of one more, and of the rest
pub one_more : {A C : Type 0} (f : A → C) (x : A) (rest all : List A) (old new total : List C) → new ≡ old ++ f x ∷ [] → all ≡ x ∷ rest
    → old ++ map f all ≡ total → new ++ map f rest ≡ total
one_more f x rest all old new total more is so_far =
    let e : old ++ map f (x ∷ rest) ≡ total = rw is at so_far in
    rw more (append_assoc old (f x ∷ []) (map f rest) ∙ e)

-- those within one more, and within the rest
pub part_more : {A B C : Type 0} (f : B → C) (g : A → List B) (x : A) (rest all : List A) (old new total : List C) → new ≡ old ++ map f (g x) → all ≡ x ∷ rest
    → old ++ map f (flat_map g all) ≡ total → new ++ map f (flat_map g rest) ≡ total
part_more f g x rest all old new total more is so_far =
    let e : old ++ map f (g x ++ flat_map g rest) ≡ total = rw is at so_far in
    let apart : old ++ (map f (g x) ++ map f (flat_map g rest)) ≡ total = ap (λ xs. old ++ xs) (sym (map-append f (g x) (flat_map g rest))) ∙ e in
    rw more (append_assoc old (map f (g x)) (map f (flat_map g rest)) ∙ apart)

two : {C : Type 0} (old mid new xs ys : List C) → mid ≡ old ++ xs → new ≡ mid ++ ys → new ≡ old ++ (xs ++ ys)
two old mid new xs ys one more = more ∙ rw one (append_assoc old xs ys)

-- a report, its evidence and its lock
pub report_stands : (old one mid new : List Sealed) (r : SignedBy Report) (s : Report) → s ≡ r.statement → one ≡ old ++ sealed reports r ∷ []
    → mid ≡ one ++ map sealed_of (parts_of_evidence s.evidence) → new ≡ mid ++ map sealed_of (parts_of_lock s.lock)
    → new ≡ old ++ map sealed_of (in_report r)
report_stands old one mid new r s is a b c =
    let e = parts_of_evidence r.statement.evidence in
    let l = parts_of_lock r.statement.lock in
    two old one new (sealed reports r ∷ []) (map sealed_of e ++ map sealed_of l) a (two one mid new (map sealed_of e) (map sealed_of l) (rw is at b) (rw is at c))
    ∙ ap (λ xs. old ++ sealed reports r ∷ xs) (sym (map-append sealed_of e l))

-- a proposal and its batch
pub proposal_stands : (old mid new : List Sealed) (p : SignedBy Proposal) (qs items : Batch) → items ≡ qs → mid ≡ old ++ sealed proposals p ∷ []
    → new ≡ mid ++ map (sealed requests) items → new ≡ old ++ map sealed_of (flat_map within (Proposed p ∷ map Asked qs))
proposal_stands old mid new p qs items is a b =
    two old mid new (sealed proposals p ∷ []) (map (sealed requests) qs) a (rw is at b)
    ∙ ap (λ xs. old ++ sealed proposals p ∷ xs) (sym (ap (λ xs. map sealed_of xs) (within_asked qs) ∙ asked_are qs))

-- a report and its batch
pub reported_stands : (old mid new : List Sealed) (r : SignedBy Report) (batch : Option Batch) → mid ≡ old ++ map sealed_of (in_report r)
    → new ≡ mid ++ map sealed_of (requests_of batch) → new ≡ old ++ map sealed_of (flat_map within (Reported r ∷ requests_of batch))
reported_stands old mid new r batch a b =
    two old mid new (map sealed_of (in_report r)) (map sealed_of (requests_of batch)) a b
    ∙ ap (λ xs. old ++ xs)
    (sym (map-append sealed_of (in_report r) (flat_map within (requests_of batch)) ∙ ap (λ xs. map sealed_of (in_report r) ++ map sealed_of xs) (within_requests batch)))

-- the beginning of a regency, and the reports in it
pub sync_stands : (old mid new : List Sealed) (s : SignedBy Sync) (items : List (SignedBy Report)) → items ≡ s.statement.collect → mid ≡ old ++ sealed syncs s ∷ []
    → new ≡ mid ++ map sealed_of (flat_map in_report items) → new ≡ old ++ map sealed_of (flat_map within (Synced s ∷ []))
sync_stands old mid new s items is a b =
    two old mid new (sealed syncs s ∷ []) (map sealed_of (flat_map in_report s.statement.collect)) a (rw is at b)
    ∙ ap (λ xs. old ++ map sealed_of xs) (sym (append-nil (Synced s ∷ flat_map in_report s.statement.collect)))

within_voted : (bs : List (SignedBy Ballot)) → flat_map within (map Voted bs) ≡ map Voted bs
within_voted [] = refl
within_voted (b ∷ bs) = ap (λ xs. Voted b ∷ xs) (within_voted bs)

within_marked : (ms : List (SignedBy Mark)) → flat_map within (map Marked ms) ≡ map Marked ms
within_marked [] = refl
within_marked (m ∷ ms) = ap (λ xs. Marked m ∷ xs) (within_marked ms)

flat-append : (xs ys : List Statement) → flat_map within (xs ++ ys) ≡ flat_map within xs ++ flat_map within ys
flat-append [] ys = refl
flat-append (x ∷ xs) ys = ap (λ zs. within x ++ zs) (flat-append xs ys) ∙ sym (append_assoc (within x) (flat_map within xs) (flat_map within ys))

-- a decided batch: its votes, and its requests
pub decision_stands : (old mid new : List Sealed) (bs votes : List (SignedBy Ballot)) (qs items : Batch) → votes ≡ bs → items ≡ qs → mid ≡ old ++ map (sealed ballots) votes
    → new ≡ mid ++ map (sealed requests) items → new ≡ old ++ map sealed_of (flat_map within (map Voted bs ++ map Asked qs))
decision_stands old mid new bs votes qs items are is a b =
    two old mid new (map (sealed ballots) bs) (map (sealed requests) qs) (rw are at a) (rw is at b)
    ∙ ap (λ xs. old ++ xs)
    (sym (ap (λ xs. map sealed_of xs) (flat-append (map Voted bs) (map Asked qs)) ∙ (map-append sealed_of (flat_map within (map Voted bs)) (flat_map within (map Asked qs))
    ∙ (ap (λ xs. map sealed_of xs ++ map sealed_of (flat_map within (map Asked qs))) (within_voted bs)
    ∙ (ap (λ xs. xs ++ map sealed_of (flat_map within (map Asked qs))) (voted_are bs)
    ∙ (ap (λ xs. map (sealed ballots) bs ++ map sealed_of xs) (within_asked qs) ∙ ap (λ xs. map (sealed ballots) bs ++ xs) (asked_are qs)))))))

-- an offer: its marks
pub offer_stands : (old new : List Sealed) (ms items : List (SignedBy Mark)) → items ≡ ms → new ≡ old ++ map (sealed marks) items
    → new ≡ old ++ map sealed_of (flat_map within (map Marked ms ++ []))
offer_stands old new ms items is a =
    (rw is at a) ∙ ap (λ xs. old ++ xs) (sym (ap (λ xs. map sealed_of (flat_map within xs)) (append-nil (map Marked ms)) ∙ (ap (λ xs. map sealed_of xs) (within_marked ms) ∙ marked_are ms)))
