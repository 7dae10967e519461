-- A diary stays lawful and tidy by what keeps its cut so.
use Rattle.std.proofs.Common.{◌≡◌, ℕ, ◌<◌, List, [], ◌∷◌, ◌++◌, refl, sym, ap, ◌∙◌, subst, append_assoc, append-nil}
use Rattle.vote_book.specs.declared.entry.LogEntry.{LogEntry}
use Rattle.vote_book.specs.Books.{HasMade, Admits, Lawful}
use Rattle.vote_book.specs.Tidy.{IsTidy, IsTidyAfter}
use Rattle.vote_book.proofs.Growth.{grows}
use Rattle.vote_book.proofs.Tidy.{grows_tidy}
use Rattle.book_laws.specs.BookCuts.{cut_at}
use Rattle.book_laws.proofs.Cut.{cut_admits}
use Rattle.book_laws.proofs.CutAgain.{cut_more, more_made}
use Rattle.book_laws.proofs.CutTidy.{tidy_by_cut, no_vote_by_cut}

pub diary_grows : (place restored : ℕ) (diary more : List LogEntry) → Lawful 0 0 diary → IsTidy diary → (0 < place → HasMade diary place)
    → Lawful place restored (cut_at place diary ++ more) → IsTidy (cut_at place diary ++ more) → Lawful 0 0 (diary ++ more) × IsTidy (diary ++ more)
diary_grows place restored diary [] lawful tidy has book neat =
    (subst (λ (es : List LogEntry). Lawful 0 0 es) (sym (append-nil diary)) lawful, subst (λ (es : List LogEntry). IsTidy es) (sym (append-nil diary)) tidy)
diary_grows place restored diary (e ∷ more) lawful tidy has book neat =
    let neat_here : IsTidyAfter (cut_at place diary) e = neat (cut_at place diary) e more refl in
    let may : Admits 0 0 diary e =
    cut_admits place restored diary e lawful has (no_vote_by_cut place diary e lawful has neat_here) (book (cut_at place diary) e more refl) in
    let split : (diary ++ e ∷ []) ++ more ≡ diary ++ e ∷ more = append_assoc diary (e ∷ []) more in
    let cut_split : cut_at place diary ++ e ∷ more ≡ cut_at place (diary ++ e ∷ []) ++ more =
    sym (append_assoc (cut_at place diary) (e ∷ []) more) ∙ ap (λ (es : List LogEntry). es ++ more) (sym (cut_more place diary (e ∷ []) has)) in
    let rest =
    diary_grows place restored (diary ++ e ∷ []) more (grows 0 0 diary e lawful may) (grows_tidy diary e tidy (tidy_by_cut place diary e lawful tidy neat_here))
    (λ some. more_made place diary (e ∷ []) (has some))
    (subst (λ (es : List LogEntry). Lawful place restored es) cut_split book) (subst (λ (es : List LogEntry). IsTidy es) cut_split neat) in
    (subst (λ (es : List LogEntry). Lawful 0 0 es) split rest.0, subst (λ (es : List LogEntry). IsTidy es) split rest.1)
