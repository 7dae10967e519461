-- What a transcript tells of a message, and the words for it.
use Rattle.std.specs.Prelude.{ℕ, Bool, Option, Some, None, List, ◌∷◌, ◌++◌, codes, length, is_some, if◌then◌else◌}
use Rattle.std.specs.Fmt.{decimal}
use Rattle.smart_statements.specs.declared.report.LockCertificate.{LockCertificate}
use Rattle.smart_statements.specs.declared.statement.VoteKind.{VoteKind}
use Rattle.smart_statements.specs.declared.statement.VoteKind.TheVariants.{Write, Accept}
use Rattle.smart_statements.specs.declared.statement.Ballot.{Ballot}
use Rattle.smart_messages.specs.declared.message.Message.{Message}
use Rattle.smart_messages.specs.declared.message.Message.TheVariants.{Ask, Propose, Vote, Reply}
use Rattle.smart_messages.specs.declared.message.Message.TheVariants as changes
use Rattle.regency_sync.specs.Choices.{choice}
use Rattle.message_words.specs.declared.words.Summary.{Summary}
use Rattle.message_words.specs.declared.words.Summary.TheVariants as summaries

-- the transcript's words for a vote
abbrev pub vote_summary : Ballot → VoteKind → Summary
vote_summary b Write = summaries.Write b.slot.view b.slot.place b.slot.regency
vote_summary b Accept = summaries.Accept b.slot.view b.slot.place b.slot.regency

-- the regency of a lock, if there is one
abbrev pub regency_locked : Option LockCertificate → Option ℕ
regency_locked None = None
regency_locked (Some l) = Some l.regency

-- the transcript's words for a message
abbrev pub summary_of : Message → Summary
summary_of (Ask q) = summaries.Ask q.statement.client q.statement.seq q.statement.after
summary_of (Propose p) = summaries.Propose p.head.statement.slot.view p.head.statement.slot.place p.head.statement.slot.regency (length p.batch)
summary_of (Vote b) = vote_summary b.statement b.statement.kind
summary_of (changes.Stop s) = summaries.Stop s.statement.view s.statement.regency
summary_of (changes.StopData r) =
    summaries.StopData r.head.statement.view r.head.statement.regency r.head.statement.last (regency_locked r.head.statement.lock)
summary_of (changes.Sync s) =
    summaries.Sync s.statement.view s.statement.regency (choice s.statement.collect).base (is_some (choice s.statement.collect).bound)
summary_of (changes.Decision d) = summaries.Decision d.place
summary_of (Reply a) = summaries.Reply a.statement.client a.statement.seq a.statement.place a.statement.index
summary_of (changes.Mark m) = summaries.Mark m.statement.place
summary_of (changes.StateAsk a) = summaries.StateAsk a.place a.fetch
summary_of (changes.StateOffer o) = summaries.Offer o.place (length o.marks)
summary_of (changes.StatePart p) = summaries.Part p.place p.index p.total
summary_of (changes.ViewTold i) = summaries.View i.statement.view.number

-- a number after a space
abbrev pub after_space : ℕ → List ℕ
after_space n = 32 ∷ decimal n

-- the regency of a lock, or a dash
abbrev pub lock_text : Option ℕ → List ℕ
lock_text None = codes " -"
lock_text (Some regency) = after_space regency

-- the word that tells whether a batch binds at the base of a regency
abbrev pub bound_text : Bool → List ℕ
bound_text bound = if bound then codes " bound" else codes " free"

abbrev pub summary_text : Summary → List ℕ
summary_text (summaries.Ask c s after) = codes "ask" ++ (after_space c ++ (after_space s ++ after_space after))
summary_text (summaries.Propose v k r count) = codes "propose" ++ (after_space v ++ (after_space k ++ (after_space r ++ after_space count)))
summary_text (summaries.Write v k r) = codes "write" ++ (after_space v ++ (after_space k ++ after_space r))
summary_text (summaries.Accept v k r) = codes "accept" ++ (after_space v ++ (after_space k ++ after_space r))
summary_text (summaries.Stop v r) = codes "stop" ++ (after_space v ++ after_space r)
summary_text (summaries.StopData v r last lock) = codes "stopdata" ++ (after_space v ++ (after_space r ++ (after_space last ++ lock_text lock)))
summary_text (summaries.Sync v r base bound) = codes "sync" ++ (after_space v ++ (after_space r ++ (after_space base ++ bound_text bound)))
summary_text (summaries.Decision k) = codes "decision" ++ after_space k
summary_text (summaries.Reply c s k i) = codes "reply" ++ (after_space c ++ (after_space s ++ (after_space k ++ after_space i)))
summary_text (summaries.Mark k) = codes "mark" ++ after_space k
summary_text (summaries.StateAsk q fetch) = codes "stateask" ++ (after_space q ++ after_space fetch)
summary_text (summaries.Offer k marks) = codes "offer" ++ (after_space k ++ after_space marks)
summary_text (summaries.Part k index total) = codes "part" ++ (after_space k ++ (after_space index ++ after_space total))
summary_text (summaries.View v) = codes "view" ++ after_space v
summary_text summaries.Raw = codes "raw"
