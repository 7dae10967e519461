use Rattle.std.proofs.Common.{refl}
use Rattle.node_state.proofs.Summaries.{summaries_follow}
use Rattle.node_state.proofs.summary.summarize.Goals as goal

pub returns-clause-follows : goal.returns-clause-follows
returns-clause-follows c =
    summaries_follow c.args.id c.args.own c.args.own c.args.other c.args.place c.args.book.now.entries c.pushed.result.now c.number-number.result c.greatest_regency-regency.result c.get.result c.start_at-start.result
    c.first_start.result c.is_some-synced.result c.votes_at-votes.result c.resume.result c.resume-2.result
    refl c.requires.same c.number-number.ensures c.pushed.ensures c.greatest_regency-regency.ensures c.start_at-start.ensures.value c.first_start.ensures c.is_some-synced.ensures c.get.ensures.value c.votes_at-votes.ensures
    c.resume.ensures c.resume-2.ensures c.requires.made
