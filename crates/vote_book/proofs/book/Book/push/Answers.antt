use Rattle.std.proofs.Common.{◌≡◌, ℕ, ◌++◌, ◌∷◌, [], ◌∙◌, ap, List, sym, subst, length, IfSome, ◌≤◌, rules}
use Rattle.vote_book.specs.declared.entry.LogEntry.{LogEntry}
use Rattle.vote_book.specs.BookIndex.{IsIndexOf, Adds}
use Rattle.vote_book.proofs.Pushes.{added, more}
use Rattle.vote_book.proofs.book.Book.push.Goals as goal

pub invariant_of-self-2 : goal.invariant_of-self-2
invariant_of-self-2 c =
    let at : c.len-index.result ≡ length c.self.inside.entries.items = search rules in
    let adds : Adds (length c.self.inside.entries.items) c.args.entry c.self.inside.index c.add.new.self =
    subst (λ (n : ℕ). Adds n c.args.entry c.self.inside.index c.add.new.self) at c.in_ok-add.ensures.ok in
    let items : c.push_reserved.new.self.items ≡ c.self.inside.entries.items ++ c.args.entry ∷ [] = c.push_reserved.ensures.items ∙ ap (λ (es : List LogEntry). es ++ c.args.entry ∷ []) c.in_ok-reserve.ensures.items in (
      subst (λ (es : List LogEntry). IsIndexOf es c.add.new.self) (sym items) (added c.self.inside.entries.items c.args.entry c.self.inside.index c.add.new.self c.self.invariant.0 adds),
      subst (λ (es : List LogEntry). IfSome c.self.inside.restored (λ n. n ≤ length es)) (sym items) (more c.self.inside.restored c.self.inside.entries.items c.args.entry c.self.invariant.1),
    )
