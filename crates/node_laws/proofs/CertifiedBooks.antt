-- What a sound book decides is certified, place by place.
use Rattle.std.proofs.Common.{ℕ, List, Some, ap, sym, ◌≡◌, ◌∙◌}
use Rattle.smart_base.specs.Views.{View}
use Rattle.vote_book.specs.Books.{Among}
use Rattle.vote_book.specs.declared.entry.Decision.{Decision}
use Rattle.vote_book.specs.declared.entry.LogEntry.{LogEntry}
use Rattle.vote_book.specs.declared.entry.LogEntry.TheVariants.{Decided}
use Rattle.book_laws.proofs.Lists.{split_at}
use Rattle.replica_rules.specs.Seals.{digest_of}
use Rattle.agreement_laws.specs.Statements.{Statement}
use Rattle.agreement_laws.specs.Lists.{Certified}
use Rattle.agreement_laws.proofs.Lists.{each_among, some_equal}
use Rattle.node_laws.specs.Restored.{IsSoundBook}
use Rattle.node_laws.specs.Sound.{IsBackedIn, IsIn, view_for}
use Rattle.node_laws.proofs.Views.{held_among}

-- each batch that a sound book decides is certified for its place, in the view that holds it
pub certified_book : (secret : List ℕ) (stated : List Statement) (views : List View) (es : List LogEntry) (d : Decision) → IsSoundBook secret stated views es → Among (Decided d) es
    → (v : View) → view_for views d.slot.place ≡ Some v → Certified secret stated v d.slot.place (digest_of d.batch)
certified_book secret stated views es d book there v holds =
    let s = split_at es (Decided d) there in
    let of = (book.ranged s.before (Decided d) s.after s.is).within.of_view in
    let same : of.view ≡ v = some_equal of.view v (sym of.holds ∙ holds) in
    let number : d.slot.view ≡ v.number = sym of.number_is ∙ ap (λ (u : View). u.number) same in
    record {
      regency = d.slot.regency;
      accepts = d.accepts;
      decision = each_among (IsBackedIn secret views stated) es (Decided d) book.backed there v (held_among views d.slot.place v holds) number;
    }

-- a place that it decides is held by a view
pub held_book : (secret : List ℕ) (stated : List Statement) (views : List View) (es : List LogEntry) (d : Decision) → IsSoundBook secret stated views es → Among (Decided d) es → IsIn views d.slot.place d.slot.view
held_book secret stated views es d book there =
    let s = split_at es (Decided d) there in
    (book.ranged s.before (Decided d) s.after s.is).within.of_view
