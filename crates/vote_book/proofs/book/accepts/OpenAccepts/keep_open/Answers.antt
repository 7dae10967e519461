use Rattle.std.proofs.Common.{rules, ap, ◌∙◌, List, filter}
use Rattle.std.proofs.lemmas.Fn.{filter_same}
use Rattle.vote_book.specs.declared.book.accepts.OpenAccept.{OpenAccept}
use Rattle.vote_book.specs.BookIndex.{is_open}
use Rattle.vote_book.proofs.book.accepts.OpenAccepts.keep_open.Goals as goal

pub returns : goal.returns
returns c =
    filter_same _ (λ (x : OpenAccept). is_open c.args.place x) _ (λ x b f' k. search rules) _ _ c.retain.ensures.filtered
    ∙ ap (λ (xs : List OpenAccept). filter (is_open c.args.place) xs) c.self.view_is
