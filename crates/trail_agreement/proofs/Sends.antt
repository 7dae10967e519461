-- What a member sends rests on its book.
use Rattle.std.proofs.Common.{◌≡◌, ℕ, ◌≤◌, Bool, true, false, nat_le, List, [], ◌∷◌, ◌++◌, length, take, drop, append_assoc, Result, Ok, refl, ap, sym, ◌∙◌, subst, Option, Some, None, cond}
use Rattle.std.proofs.lemmas.List.{take-append-drop}
use Rattle.smart_base.specs.Lists.{Each}
use Rattle.smart_base.specs.Views.{View}
use Rattle.smart_messages.specs.Messages.{spelling, decoded, Fits}
use Rattle.smart_messages.specs.declared.message.Message.{Message}
use Rattle.smart_messages.proofs.Messages.{spelling_is}
use Rattle.smart_service.specs.Services.{Meaning}
use Rattle.vote_book.specs.declared.entry.LogEntry.{LogEntry}
use Rattle.vote_book.proofs.Tested.{same_bytes_is}
use Rattle.agreement_laws.proofs.Lists.{some_equal}
use Rattle.node_rules.specs.Nodes.{Node}
use Rattle.node_rules.specs.Steps.{first_leaving}
use Rattle.node_rules.specs.declared.node.Held.{Held}
use Rattle.agreement_laws.specs.Statements.{Statement}
use Rattle.replica_laws.specs.Sending.{RestsOn}
use Rattle.replica_laws.proofs.Genuine.{IsGood}
use Rattle.replica_laws.proofs.Onward.{Longer, HoldsRight, rests-more}
use Rattle.replica_laws.proofs.Small.{IsBrief}
use Rattle.trail.specs.Events.{addressed_text}
use Rattle.trail.specs.declared.event.Addressed.{Addressed}
use Rattle.trail.specs.declared.event.TrailEvent.{TrailEvent}
use Rattle.trail.specs.declared.event.TrailEvent.TheVariants.{Happens, Send, Lost, Polls, End}
use Rattle.trail_rules.specs.Replays.{node_step, after, replay, sends}
use Rattle.audit_rules.specs.Audits.{is_release, addressed_of}
use Rattle.audit_rules.specs.Coherence.{IsNext, Leaves}
use Rattle.trail_agreement.proofs.Runs.{IsRight, MayArrive, right-after, grows-after, grows-replay}

-- ---- what is spelled alike is one message

ok_one : (read : Result Message ℕ) (a b : Message) → read ≡ Ok a → read ≡ Ok b → a ≡ b
ok_one read a b one other = cc

spelled_alike : (a b : Addressed) → addressed_text a ≡ addressed_text b → spelling a.message ≡ spelling b.message
unfolding addressed_text
spelled_alike a b same = ap (λ (bytes : List ℕ). drop 3 bytes) same

-- a message that is held, with fitting content, is the one that has a spelling
message_is : (a b : Message) → spelling a ≡ spelling b → decoded (spelling a) ≡ Ok a → decoded (spelling b) ≡ Ok b → a ≡ b
message_is a b same ra rb = ok_one (decoded (spelling a)) a b ra (ap (λ (bytes : List ℕ). decoded bytes) same ∙ rb)

pub held_is : (secret : List ℕ) (h : Held) (a : Addressed) → IsGood secret h.message → Fits a.message → addressed_text (addressed_of h) ≡ addressed_text a → h.message ≡ a.message
held_is secret h a good fits same =
    let alike : spelling h.message ≡ spelling a.message = spelled_alike (addressed_of h) a same in
    let short : length (spelling h.message) ≤ 1048576 = subst (λ (bytes : List ℕ). length bytes ≤ 1048576) (sym alike) fits.bytes_fit in
    message_is h.message a.message alike (spelling_is h.message (record { content_fits = good.fits; bytes_fit = short })) (spelling_is a.message fits)

-- ---- a Send

longer-take : (k : ℕ) (es : List LogEntry) → Longer (take k es) es
longer-take k es = record { more = drop k es; split = sym (take-append-drop k es) }

longer-both : (xs ys zs : List LogEntry) → Longer xs ys → Longer ys zs → Longer xs zs
longer-both xs ys zs f g = record { more = f.more ++ g.more; split = g.split ∙ (ap (λ (es : List LogEntry). es ++ g.more) f.split ∙ append_assoc xs f.more g.more) }

rests_released : (secret : List ℕ) (id : ℕ) (es : List LogEntry) (a : Addressed) (next : Option Held) → ((h : Held) → next ≡ Some h → HoldsRight id es h × IsGood secret h.message) → Fits a.message
    → is_release a next ≡ true → RestsOn es a.message
rests_released secret id es a None right fits is = absurd (cc)
rests_released secret id es a (Some h) right fits is =
    let of = right h refl in
    let same : h.message ≡ a.message = held_is secret h a of.1 fits (same_bytes_is (addressed_text (addressed_of h)) (addressed_text a) is) in
    subst (λ (x : Message). RestsOn es x) same (rests-more (take h.needs es) es (longer-take h.needs es) h.message of.0.rests)

-- the first message that leaves is held
pub first_there : (P : Held → Type 0) (firm : ℕ) (held : List Held) (h : Held) → Each P held → first_leaving firm held ≡ Some h → P h
first_there P firm [] h each is = absurd (cc)
first_there P firm (x ∷ xs) h each is = by (nat_le x.needs firm) is
  where
    by : (t : Bool) → cond t (Some x) None ≡ Some h → P h
    by true same = subst P (some_equal x h same) each.0
    by false same = absurd (cc)

module _ {S : Type 0} (m : Meaning S) (brief : IsBrief m) (stated : List Statement) (secret : List ℕ) (view : View) (id : ℕ) where
  rests_send : (n : Node S) (a : Addressed) → IsRight m stated secret view id n → Fits a.message → IsNext n (Send a) → RestsOn n.entries a.message
  rests_send n a is fits next =
      rests_released secret n.id n.entries a (first_leaving n.firm n.held)
      (λ h first. (
        first_there (HoldsRight n.id n.entries) n.firm n.held h is.rests.held first,
        first_there (λ (x : Held). IsGood secret x.message) n.firm n.held h is.fit.held first,
      )) fits next

  -- ---- all Sends of a trail

  abbrev Rests : List LogEntry → Addressed → Type 0
  Rests es a = RestsOn es a.message

  each_sent : (n : Node S) (e : TrailEvent) (events : List TrailEvent) (es : List LogEntry) → IsRight m stated secret view id n → IsNext n e → Longer n.entries es
      → Each (λ a. Fits a.message) (sends (e ∷ events)) → Each (Rests es) (sends events) → Each (Rests es) (sends (e ∷ events))
  each_sent n (Send a) events es is next longer fits rest = (rests-more n.entries es longer a.message (rests_send n a is fits.0 next), rest)
  each_sent n (Happens event) events es is next longer fits rest = rest
  each_sent n (Lost a) events es is next longer fits rest = rest
  each_sent n (Polls count) events es is next longer fits rest = rest
  each_sent n End events es is next longer fits rest = rest

  fit_rest : (e : TrailEvent) (events : List TrailEvent) → Each (λ a. Fits a.message) (sends (e ∷ events)) → Each (λ a. Fits a.message) (sends events)
  fit_rest (Send a) events fits = fits.1
  fit_rest (Happens event) events fits = fits
  fit_rest (Lost a) events fits = fits
  fit_rest (Polls count) events fits = fits
  fit_rest End events fits = fits

  pub sends_rest : (n : Node S) (events : List TrailEvent) → IsRight m stated secret view id n → Each (MayArrive stated secret) events → Leaves (node_step m) n events
      → Each (λ a. Fits a.message) (sends events) → Each (Rests (replay (node_step m) n events).entries) (sends events)
  sends_rest n [] is may leaves fits = tt
  sends_rest n (e ∷ events) is may leaves fits =
      let next : Node S = after (node_step m) n e in
      let right : IsRight m stated secret view id next = right-after m brief stated secret view id n e is may.0 in
      let last : List LogEntry = (replay (node_step m) next events).entries in
      each_sent n e events last is leaves.0
      (longer-both n.entries next.entries last (grows-after m n e is.rests) (grows-replay m brief stated secret view id next events right may.1)) fits
      (sends_rest next events right may.1 leaves.1 (fit_rest e events fits))
