-- Who asks a request.
use Rattle.std.proofs.Common.{◌++◌, List, [], ◌∷◌, inl, inr, subst}
use Rattle.smart_statements.specs.declared.statement.Request.{Request}
use Rattle.vote_book.specs.Books.{Among}
use Rattle.world_laws.specs.Promises.{IsAskedIn, HasAsked}
use Rattle.world_rules.specs.Worlds.{World, posts}
use Rattle.world_rules.specs.declared.message.Sent.{Sent}
use Rattle.world_laws.proofs.Keeps.{by-posts}

-- what was asked stays asked

pub asked_end : (sent : List Sent) (s : Sent) (q : Request) → HasAsked sent q → HasAsked (sent ++ s ∷ []) q
asked_end [] s q asked = absurd asked
asked_end (t ∷ sent) s q asked = elim asked [ inl here ↦ inl here | inr later ↦ inr (asked_end sent s q later) ]

-- what its client sends is asked
pub asked_now : (sent : List Sent) (s : Sent) (q : Request) → IsAskedIn s q → HasAsked (sent ++ s ∷ []) q
asked_now [] s q asks = inl asks
asked_now (t ∷ sent) s q asks = inr (asked_now sent s q asks)

-- what it has sent was asked
pub asked_among : (sent : List Sent) (s : Sent) (q : Request) → IsAskedIn s q → Among s sent → HasAsked sent q
asked_among [] s q asks there = absurd there
asked_among (t ∷ sent) s q asks (inl is) = inl (subst (λ (x : Sent). IsAskedIn x q) is asks)
asked_among (t ∷ sent) s q asks (inr there) = inr (asked_among sent s q asks there)

-- what was asked stays asked where a message leaves
pub asked_grows : {S : Type 0} (w : World S) (s : Sent) (q : Request) → HasAsked w.sent q → HasAsked (posts w s).sent q
asked_grows {S = S} w s q asked = by-posts (λ (v : World S). HasAsked v.sent q) w s (λ ending. asked) (λ free room. asked_end w.sent s q asked)
