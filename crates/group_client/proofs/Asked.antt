-- What a trail with more events asks for.
use Rattle.std.proofs.Common.{◌≡◌, ◌⊎◌, inl, inr, ℕ, suc, ◌+◌, ◌≤◌, ◌<◌, ◌^◌, ◌==◌, Bool, true, false, cond, List, [], ◌∷◌, ◌++◌, length, Option, Some, None, refl, sym, ap, subst, ◌∙◌, arith, append-nil}
use Rattle.std.proofs.lemmas.Fmt.{length-decimal-le}
use Rattle.std.proofs.lemmas.List.Concat.{flat_map-append}
use Rattle.std.specs.Fmt.{decimal}
use Rattle.std.specs.List.{flat_map}
use Rattle.smart_base.specs.Lists.{Each}
use Rattle.smart_statements.specs.Forms.{SignedBy}
use Rattle.smart_statements.specs.declared.statement.Answer.{Answer}
use Rattle.smart_messages.specs.Messages.{decoded}
use Rattle.smart_messages.specs.declared.regency.ViewInfo.{ViewInfo}
use Rattle.client_quorum.specs.Clients.{after_heard}
use Rattle.client_quorum.specs.Readings.{heard_word, after_word, after_read, after_bytes, word_read}
use Rattle.client_quorum.specs.ViewWords.{after_told}
use Rattle.client_quorum.specs.declared.client.Client.{Client}
use Rattle.client_quorum.specs.declared.client.Heard.{Heard}
use Rattle.client_quorum.specs.declared.client.Heard.TheVariants as hears
use Rattle.client_quorum.specs.declared.client.Word.{Word}
use Rattle.client_quorum.specs.declared.client.Word.TheVariants as words
use Rattle.node_rules.specs.declared.node.Target.{Target}
use Rattle.trail.specs.declared.event.Addressed.{Addressed}
use Rattle.trail.specs.declared.event.TrailEvent.{TrailEvent}
use Rattle.trail.specs.declared.event.TrailEvent.TheVariants.{Happens, Send, Lost, Polls, End}
use Rattle.trail_rules.specs.Replays.{sends}
use Rattle.group_ends.specs.Ports.{losts, IsPosted}
use Rattle.group_ends.proofs.Carrying.{IsLostOf, losts-only}
use Rattle.client_seat.specs.Asks.{ask_by, told_polls}
use Rattle.client_seat.proofs.Grown.{sends-join}
use Rattle.group_client.specs.Amounts.{op_in, asked_in, amounts, AsksUpTo}

-- the digits of a number of 64 bits fit into an operation
pub short-amount : (n : ℕ) → n < 2 ^ 64 → length (decimal n) ≤ 4096
short-amount n small = omega (arith, length-decimal-le 20 n (omega arith) (omega (arith, small)) small)

-- Losts send nothing
sends-lost : (a : Addressed) (lost : List TrailEvent) → Each (IsLostOf a) lost → sends lost ≡ []
sends-lost a [] only = refl
sends-lost a (Happens event ∷ lost) only = absurd only.0
sends-lost a (Send b ∷ lost) only = absurd only.0
sends-lost a (Lost b ∷ lost) only = sends-lost a lost only.1
sends-lost a (Polls count ∷ lost) only = absurd only.0
sends-lost a (End ∷ lost) only = absurd only.0

sends-told : (b : Bool) (idle : ℕ) → sends (cond b [] (Polls idle ∷ [])) ≡ []
sends-told true idle = refl
sends-told false idle = refl

-- polls that found nothing
pub asked-told : (es new : List TrailEvent) (idle : ℕ) → new ≡ es ++ told_polls idle → asked_in new ≡ asked_in es
asked-told es new idle longer =
    ap (flat_map op_in) (ap sends longer ∙ sends-join es (told_polls idle) ∙ ap (λ (l : List Addressed). sends es ++ l) (sends-told (idle == 0) idle) ∙ append-nil (sends es))

-- a request
pub asked-more : (secret : List ℕ) (was : Client) (op : List ℕ) (targets : List Target) (es new : List TrailEvent) → IsPosted (ask_by secret was op) targets es new → asked_in new ≡ asked_in es ++ op ∷ []
asked-more secret was op targets es new posted =
    let a = ask_by secret was op in
    let lost = losts a targets posted.dropped in
    let all : sends new ≡ sends es ++ a ∷ [] =
    ap sends posted.after_is ∙ sends-join es (Send a ∷ lost) ∙ ap (λ (l : List Addressed). sends es ++ a ∷ l) (sends-lost a lost (losts-only a targets posted.dropped)) in
    ap (flat_map op_in) all ∙ flat_map-append op_in (sends es) (a ∷ [])

-- ---- how many

pub amounts-more : (n : ℕ) → amounts (n + 1) ≡ amounts n ++ decimal (n + 1) ∷ []
amounts-more n = let P : ℕ → Type 0 = λ k. amounts k ≡ amounts n ++ decimal k ∷ [] in subst P one refl
  where
    one : suc n ≡ n + 1
    one = omega arith

pub asked-next : (before after : List (List ℕ)) (last now : ℕ) → before ≡ amounts last → now ≡ last + 1 → after ≡ before ++ decimal (last + 1) ∷ [] → after ≡ amounts now
asked-next before after last now is one more =
    more ∙ ap (λ (l : List (List ℕ)). l ++ decimal (last + 1) ∷ []) is ∙ sym (amounts-more last) ∙ ap amounts (sym one)

pub up-to : (asks last : ℕ) (events : List TrailEvent) → last ≤ asks → asked_in events ≡ amounts last → AsksUpTo asks events
up-to asks last events few is = record { count = last; few = few; ops = is }

-- a call that was to ask for the next amount has asked for it, or for nothing
pub up-to-next : (asks last : ℕ) (es new : List TrailEvent) → last + 1 ≤ asks → asked_in es ≡ amounts last
    → (asked_in new ≡ asked_in es) ⊎ (asked_in new ≡ asked_in es ++ decimal (last + 1) ∷ []) → AsksUpTo asks new
up-to-next asks last es new few is (inl same) = up-to asks last new (omega (arith, few)) (same ∙ is)
up-to-next asks last es new few is (inr more) = up-to asks (last + 1) new few (asked-next (asked_in es) (asked_in new) last (last + 1) is refl more)

-- ---- a client that hears

heard-last : (c : Client) (a : SignedBy Answer) (h : Heard) → (after_heard c a h).last ≡ c.last
heard-last c a (hears.Counted count need) = refl
heard-last c a (hears.Accepted acceptance) = refl
heard-last c a (hears.Viewed count need) = refl
heard-last c a (hears.Moved number) = refl
heard-last c a (hears.Ignored why) = refl

told-last : (c : Client) (i : SignedBy ViewInfo) (h : Heard) → (after_told c i h).last ≡ c.last
told-last c i (hears.Counted count need) = refl
told-last c i (hears.Accepted acceptance) = refl
told-last c i (hears.Viewed count need) = refl
told-last c i (hears.Moved number) = refl
told-last c i (hears.Ignored why) = refl

word-last : (c : Client) (w : Word) (h : Heard) → (after_word c w h).last ≡ c.last
word-last c (words.Reply a) h = heard-last c a h
word-last c (words.View i) h = told-last c i h

read-last : (secret : List ℕ) (c : Client) (w : Option Word) → (after_read secret c w).last ≡ c.last
read-last secret c None = refl
read-last secret c (Some w) = word-last c w (heard_word secret c w)

-- asks for nothing
pub same-last : (secret : List ℕ) (c now : Client) (bytes : List ℕ) → now ≡ after_bytes secret c bytes → now.last ≡ c.last
same-last secret c now bytes is = ap (λ (x : Client). x.last) is ∙ read-last secret c (word_read (decoded bytes))
