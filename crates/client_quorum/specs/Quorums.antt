-- The first of the replies that a client hears with which a quorum of a view has given the same reply to its request.
use Rattle.std.specs.Prelude.{ℕ, ◌==◌, Bool, false, ◌&&◌, List, [], ◌∷◌, ◌++◌, if◌then◌else◌, Option, Some, None}
use Rattle.smart_base.specs.Lists.{or_else}
use Rattle.smart_base.specs.Views.{View, is_quorum, is_member}
use Rattle.smart_statements.specs.Forms.{SignedBy}
use Rattle.smart_statements.specs.Kinds.{answers}
use Rattle.smart_statements.specs.declared.statement.Request.{Request}
use Rattle.smart_statements.specs.declared.statement.Answer.{Answer}
use Rattle.certificates.specs.Collects.{view_numbered, of_view}
use Rattle.replica_rules.specs.Seals.{is_verified}
use Rattle.client_quorum.specs.Clients.{same_answer, is_waited_for, acceptance}
use Rattle.client_quorum.specs.Readings.{heard_word, after_word}
use Rattle.client_quorum.specs.declared.client.Client.{Client}
use Rattle.client_quorum.specs.declared.client.Acceptance.{Acceptance}
use Rattle.client_quorum.specs.declared.client.Heard.{Heard}
use Rattle.client_quorum.specs.declared.client.Heard.TheVariants as hears
use Rattle.client_quorum.specs.declared.client.Word.{Word}
use Rattle.client_quorum.specs.declared.client.Word.TheVariants as words

-- the client after it heard words, in order
abbrev pub after_words : List ℕ → Client → List Word → Client
after_words secret c [] = c
after_words secret c (w ∷ ws) = after_words secret (after_word c w (heard_word secret c w)) ws

-- a reply that came to a client, and the views that the client knew as it came
pub record Came : Type 0 where
  pub reply : SignedBy Answer
  pub views : List View

-- a word that came to a client, if it is a reply
abbrev pub came_by : Client → Word → List Came
came_by c (words.Reply a) = record { reply = a; views = c.views } ∷ []
came_by c (words.View i) = []

-- the replies among words that a client hears, in order
abbrev pub came_to : List ℕ → Client → List Word → List Came
came_to secret c [] = []
came_to secret c (w ∷ ws) = came_by c w ++ came_to secret (after_word c w (heard_word secret c w)) ws

-- A reply that counts: it bears its signer's tag and is to the request. Its signer is a member of the view that it states, which the client
-- knew as it came.
abbrev pub counts_for : List ℕ → Request → Came → Bool
counts_for secret q k =
    is_verified answers secret k.reply && is_waited_for (Some q) k.reply.statement
    && of_view (view_numbered k.views k.reply.statement.view) (λ v. is_member v k.reply.signer)

-- a member's first reply that passes a test
abbrev pub first_of : (Came → Bool) → List Came → ℕ → Option Answer
first_of test [] member = None
first_of test (k ∷ came) member = if (k.reply.signer == member) && test k then Some k.reply.statement else first_of test came member

-- an optional reply that is there, and the same as another
abbrev pub is_same : Option Answer → Answer → Bool
is_same None a = false
is_same (Some b) a = same_answer b a

-- a member that gave a reply: its first one that counts is the same
abbrev pub gave : List ℕ → Request → List Came → Answer → ℕ → Bool
gave secret q came a member = is_same (first_of (counts_for secret q) came member) a

-- a reply that a quorum of the members gave, in the view that it states, one of some known views
abbrev pub quorum_gave : List ℕ → Request → List Came → List View → Answer → Bool
quorum_gave secret q came views a = of_view (view_numbered views a.view) (λ v. is_quorum v (gave secret q came a))

-- the first of later replies with which a quorum gave the same reply
abbrev pub first_given : List ℕ → Request → List Came → List Came → Option Acceptance
first_given secret q past [] = None
first_given secret q past (k ∷ came) =
    if quorum_gave secret q (past ++ k ∷ []) k.views k.reply.statement
    then Some (acceptance q k.reply.statement)
    else first_given secret q (past ++ k ∷ []) came

-- the acceptance in what a client made of a word, if there is one
abbrev pub accepted_in : Heard → Option Acceptance
accepted_in (hears.Counted count need) = None
accepted_in (hears.Accepted a) = Some a
accepted_in (hears.Viewed count need) = None
accepted_in (hears.Moved number) = None
accepted_in (hears.Ignored why) = None

-- the first acceptance of a client that hears words in order, if there is one
abbrev pub accepted_of : List ℕ → Client → List Word → Option Acceptance
accepted_of secret c [] = None
accepted_of secret c (w ∷ ws) = or_else (accepted_in (heard_word secret c w)) (accepted_of secret (after_word c w (heard_word secret c w)) ws)
