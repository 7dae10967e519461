-- The latest place and the greatest, once an entry is added.
use Rattle.std.proofs.Common.{◌≡◌, ℕ, max, List, [], ◌∷◌, ◌++◌, Option, None, Some, refl, ap, ◌∙◌, arith}
use Rattle.smart_base.specs.Lists.{or_else}
use Rattle.vote_book.specs.declared.entry.LogEntry.{LogEntry}
use Rattle.vote_book.specs.Books.{number_or, place_made, latest_made, last_made}

else_none : (a : Option ℕ) → or_else None a ≡ or_else a None
else_none None = refl
else_none (Some n) = refl

else_assoc : (a b c : Option ℕ) → or_else (or_else a b) c ≡ or_else a (or_else b c)
else_assoc None b c = refl
else_assoc (Some n) b c = refl

pub latest_push : (es : List LogEntry) (e : LogEntry) → latest_made (es ++ e ∷ []) ≡ or_else (place_made e) (latest_made es)
latest_push [] e = else_none (place_made e)
latest_push (y ∷ ys) e = ap (λ (o : Option ℕ). or_else o (place_made y)) (latest_push ys e) ∙ else_assoc (place_made e) (latest_made ys) (place_made y)

pub last_push : (es : List LogEntry) (e : LogEntry) → last_made (es ++ e ∷ []) ≡ max (last_made es) (number_or (place_made e) 0)
last_push [] e = omega arith
last_push (y ∷ ys) e = let rest = last_push ys e in omega arith
