-- What a client makes of bytes.
use Rattle.std.specs.Prelude.{ℕ, List, Option, Some, None, Result, Ok, Err}
use Rattle.smart_statements.specs.Forms.{SignedBy}
use Rattle.smart_statements.specs.declared.statement.Answer.{Answer}
use Rattle.smart_messages.specs.Messages.{decoded, reply_in, view_told_in}
use Rattle.smart_messages.specs.declared.message.Message.{Message}
use Rattle.smart_messages.specs.declared.regency.ViewInfo.{ViewInfo}
use Rattle.client_quorum.specs.Clients.{heard, after_heard}
use Rattle.client_quorum.specs.ViewWords.{told, after_told}
use Rattle.client_quorum.specs.declared.client.Client.{Client}
use Rattle.client_quorum.specs.declared.client.Ignored.TheVariants as reasons
use Rattle.client_quorum.specs.declared.client.Heard.{Heard}
use Rattle.client_quorum.specs.declared.client.Heard.TheVariants as hears
use Rattle.client_quorum.specs.declared.client.Word.{Word}
use Rattle.client_quorum.specs.declared.client.Word.TheVariants as words

-- a member's word to a client by the reply, or by the statement of a view, that a message is
abbrev pub word_by : Option (SignedBy Answer) → Option (SignedBy ViewInfo) → Option Word
word_by (Some a) info = Some (words.Reply a)
word_by None (Some i) = Some (words.View i)
word_by None None = None

-- the word that a message is, if it is one
abbrev pub word_in : Message → Option Word
word_in m = word_by (reply_in m) (view_told_in m)

-- the word that was read, if it is one
abbrev pub word_read : Result Message ℕ → Option Word
word_read (Ok m) = word_in m
word_read (Err at) = None

-- what a client makes of a member's word
abbrev pub heard_word : List ℕ → Client → Word → Heard
heard_word secret c (words.Reply a) = heard secret c a
heard_word secret c (words.View i) = told secret c i

-- the client after it heard a member's word
abbrev pub after_word : Client → Word → Heard → Client
after_word c (words.Reply a) h = after_heard c a h
after_word c (words.View i) h = after_told c i h

-- what a client makes of what was read; it ignores what is no word
abbrev pub heard_read : List ℕ → Client → Option Word → Heard
heard_read secret c None = hears.Ignored reasons.Unread
heard_read secret c (Some w) = heard_word secret c w

-- the client after it heard what was read
abbrev pub after_read : List ℕ → Client → Option Word → Client
after_read secret c None = c
after_read secret c (Some w) = after_word c w (heard_word secret c w)

-- what a client makes of bytes
abbrev pub heard_bytes : List ℕ → Client → List ℕ → Heard
heard_bytes secret c bytes = heard_read secret c (word_read (decoded bytes))

-- the client after it heard bytes
abbrev pub after_bytes : List ℕ → Client → List ℕ → Client
after_bytes secret c bytes = after_read secret c (word_read (decoded bytes))
