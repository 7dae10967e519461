-- The lines of the replies that the client of a group accepts.
use Rattle.std.specs.Prelude.{◌≡◌, ℕ, List, [], ◌∷◌, ◌++◌, take, codes, Option, None, Some}
use Rattle.std.specs.Fmt.{decimal}
use Rattle.std.specs.List.{flat_map}
use Rattle.std.specs.Option.{option_to_list}
use Rattle.std.specs.Io.KnownBytes.{Appends}
use Rattle.client_quorum.specs.Clients.{fresh}
use Rattle.client_quorum.specs.Quorums.{accepted_in}
use Rattle.client_quorum.specs.declared.client.Acceptance.{Acceptance}
use Rattle.client_quorum.specs.declared.client.Heard.{Heard}
use Rattle.trail.specs.declared.event.TrailEvent.{TrailEvent}
use Rattle.trail.specs.declared.opening.TrailOpening.{TrailOpening}
use Rattle.client_seat.specs.Asks.{acceptances}

-- what the client of a group accepted by its trail, in order
abbrev pub accepted : TrailOpening → List TrailEvent → List Acceptance
accepted head events = acceptances head.secret (fresh head.view 1) events

-- what a client accepted by a message that it heard, if it heard one
abbrev pub accepted_by : Option Heard → List Acceptance
accepted_by None = []
accepted_by (Some heard) = option_to_list (accepted_in heard)

-- the line of an acceptance: the number of the request, and the reply
abbrev pub reply_line : Acceptance → List ℕ
reply_line a = codes "reply " ++ (decimal a.request.seq ++ (32 ∷ (a.reply ++ 10 ∷ [])))

abbrev pub reply_lines : List Acceptance → List ℕ
reply_lines acceptances = flat_map reply_line acceptances

-- The lines of what was accepted since were written.
pub record IsTold (old new : List Acceptance) (before after : Option (List ℕ)) : Type 0 where
  pub more : List Acceptance
  pub new_is : new ≡ old ++ more
  pub wrote : Appends before after (reply_lines more)

-- A front of these lines was written.
pub record IsToldFirst (old new : List Acceptance) (before after : Option (List ℕ)) : Type 0 where
  pub more : List Acceptance
  pub new_is : new ≡ old ++ more
  pub count : ℕ
  pub wrote : Appends before after (take count (reply_lines more))

-- Whole lines were written: those of the first of what was accepted since.
pub record IsToldWhole (old new : List Acceptance) (before after : Option (List ℕ)) : Type 0 where
  pub told : List Acceptance
  pub untold : List Acceptance
  pub new_is : new ≡ old ++ (told ++ untold)
  pub wrote : Appends before after (reply_lines told)
