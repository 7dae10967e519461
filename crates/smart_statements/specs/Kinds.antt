-- The kinds of statements.
use Rattle.smart_base.specs.Spelling.{member_kind, client_kind}
use Rattle.smart_statements.specs.Forms.{Form}
use Rattle.smart_statements.specs.Spelling.{proposal, ballot, answer, request}
use Rattle.smart_statements.specs.Reading.{proposal_at, ballot_at, answer_at, request_at}
use Rattle.smart_statements.specs.declared.statement.Request.{Request}
use Rattle.smart_statements.specs.declared.statement.Proposal.{Proposal}
use Rattle.smart_statements.specs.declared.statement.Ballot.{Ballot}
use Rattle.smart_statements.specs.declared.statement.Answer.{Answer}

abbrev pub proposals : Form Proposal
proposals = record { kind = member_kind; spell = proposal; read = proposal_at }

abbrev pub ballots : Form Ballot
ballots = record { kind = member_kind; spell = ballot; read = ballot_at }

abbrev pub answers : Form Answer
answers = record { kind = member_kind; spell = answer; read = answer_at }

abbrev pub requests : Form Request
requests = record { kind = client_kind; spell = request; read = request_at }
