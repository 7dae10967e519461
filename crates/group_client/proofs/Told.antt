-- What a client accepts by a trail with more events, and the lines of it.
use Rattle.std.proofs.Common.{◌≡◌, ℕ, ◌+◌, ◌==◌, Bool, true, false, cond, List, [], ◌∷◌, ◌++◌, length, take, Option, Some, None, refl, sym, ap, subst, ◌∙◌, true≢false, append_assoc, append-nil}
use Rattle.std.proofs.KnownBytes.{Appends-trans}
use Rattle.std.proofs.Math.Seq.{take-append-add}
use Rattle.std.proofs.lemmas.List.Concat.{flat_map-append}
use Rattle.std.specs.Option.{option_to_list}
use Rattle.std.specs.Io.KnownBytes.{Appends, Keeps}
use Rattle.smart_base.specs.Lists.{Each}
use Rattle.smart_statements.specs.declared.entry.NodeEvent.TheVariants.{Arrive}
use Rattle.client_quorum.specs.Clients.{fresh}
use Rattle.client_quorum.specs.Quorums.{accepted_in}
use Rattle.client_quorum.specs.Readings.{heard_bytes}
use Rattle.client_quorum.specs.declared.client.Acceptance.{Acceptance}
use Rattle.client_quorum.specs.declared.client.Client.{Client}
use Rattle.client_quorum.specs.declared.client.Heard.{Heard}
use Rattle.node_rules.specs.declared.node.Target.{Target}
use Rattle.trail.specs.declared.event.Addressed.{Addressed}
use Rattle.trail.specs.declared.event.TrailEvent.{TrailEvent}
use Rattle.trail.specs.declared.event.TrailEvent.TheVariants.{Happens, Send, Lost, Polls, End}
use Rattle.trail.specs.declared.opening.TrailOpening.{TrailOpening}
use Rattle.group_ends.specs.Ports.{losts, IsPosted}
use Rattle.group_ends.proofs.Carrying.{IsLostOf, losts-only}
use Rattle.client_seat.specs.Asks.{acceptances, accepted_by as accepted_at, client_after, client_of, told_polls}
use Rattle.group_client.specs.Ends.{cuts_line}
use Rattle.group_client.specs.Lines.{accepted, accepted_by, reply_line, reply_lines, IsTold, IsToldFirst, IsToldWhole}
use Rattle.group_client.specs.declared.asking.ClientFault.{ClientFault}
use Rattle.group_client.specs.declared.asking.ClientFault.TheVariants as faults

-- ---- what is accepted

accepted-join : (secret : List ℕ) (c : Client) (xs ys : List TrailEvent)
    → acceptances secret c (xs ++ ys) ≡ acceptances secret c xs ++ acceptances secret (client_of secret c xs) ys
accepted-join secret c [] ys = refl
accepted-join secret c (x ∷ xs) ys =
    let first = option_to_list (accepted_at secret c x) in
    let next = client_after secret c x in
    ap (λ (l : List Acceptance). first ++ l) (accepted-join secret next xs ys)
    ∙ sym (append_assoc first (acceptances secret next xs) (acceptances secret (client_of secret next xs) ys))

accepted-lost : (secret : List ℕ) (c : Client) (a : Addressed) (lost : List TrailEvent) → Each (IsLostOf a) lost → acceptances secret c lost ≡ []
accepted-lost secret c a [] only = refl
accepted-lost secret c a (Happens event ∷ lost) only = absurd only.0
accepted-lost secret c a (Send b ∷ lost) only = absurd only.0
accepted-lost secret c a (Lost b ∷ lost) only = accepted-lost secret c a lost only.1
accepted-lost secret c a (Polls count ∷ lost) only = absurd only.0
accepted-lost secret c a (End ∷ lost) only = absurd only.0

accepted-polls : (secret : List ℕ) (c : Client) (b : Bool) (idle : ℕ) → acceptances secret c (cond b [] (Polls idle ∷ [])) ≡ []
accepted-polls secret c true idle = refl
accepted-polls secret c false idle = refl

-- events behind which nothing more is accepted
accepted-same : (head : TrailOpening) (es new more : List TrailEvent) → new ≡ es ++ more → acceptances head.secret (client_of head.secret (fresh head.view 1) es) more ≡ [] → accepted head new ≡ accepted head es
accepted-same head es new more longer none =
    ap (accepted head) longer ∙ accepted-join head.secret (fresh head.view 1) es more ∙ ap (λ (l : List Acceptance). accepted head es ++ l) none ∙ append-nil (accepted head es)

pub accepted-told : (head : TrailOpening) (es new : List TrailEvent) (idle : ℕ) → new ≡ es ++ told_polls idle → accepted head new ≡ accepted head es
accepted-told head es new idle longer = accepted-same head es new (told_polls idle) longer (accepted-polls head.secret (client_of head.secret (fresh head.view 1) es) (idle == 0) idle)

pub accepted-posted : (head : TrailOpening) (a : Addressed) (targets : List Target) (es new : List TrailEvent) → IsPosted a targets es new → accepted head new ≡ accepted head es
accepted-posted head a targets es new posted =
    let before = client_of head.secret (fresh head.view 1) es in
    accepted-same head es new (Send a ∷ losts a targets posted.dropped) posted.after_is
    (accepted-lost head.secret (client_after head.secret before (Send a)) a (losts a targets posted.dropped) (losts-only a targets posted.dropped))

-- a message that was heard
pub accepted-heard : (head : TrailOpening) (c : Client) (bytes : List ℕ) (h : Heard) (es new : List TrailEvent) → c ≡ client_of head.secret (fresh head.view 1) es → h ≡ heard_bytes head.secret c bytes
    → new ≡ es ++ Happens (Arrive bytes) ∷ [] → accepted head new ≡ accepted head es ++ accepted_by (Some h)
accepted-heard head c bytes h es new kept is longer =
    let before = client_of head.secret (fresh head.view 1) es in
    let one : heard_bytes head.secret before bytes ≡ h = ap (λ (x : Client). heard_bytes head.secret x bytes) (sym kept) ∙ sym is in
    ap (accepted head) longer ∙ accepted-join head.secret (fresh head.view 1) es (Happens (Arrive bytes) ∷ [])
    ∙ ap (λ (l : List Acceptance). accepted head es ++ l) (append-nil (option_to_list (accepted_in (heard_bytes head.secret before bytes))))
    ∙ ap (λ (x : Heard). accepted head es ++ option_to_list (accepted_in x)) one

-- a trail that is longer accepts more
pub accepted-longer : (head : TrailOpening) (es new more : List TrailEvent) → new ≡ es ++ more → (l : List Acceptance) × (accepted head new ≡ accepted head es ++ l)
accepted-longer head es new more longer =
    (acceptances head.secret (client_of head.secret (fresh head.view 1) es) more, ap (accepted head) longer ∙ accepted-join head.secret (fresh head.view 1) es more)

-- ---- the lines

-- known bytes that stay grow by nothing
pub keeps-none : (a b : Option (List ℕ)) → b ≡ a → Appends a b []
keeps-none None b same = tt
keeps-none (Some xs) b same = subst (λ (o : Option (List ℕ)). Appends (Some xs) o []) (sym same) (sym (append-nil xs))

take-whole : (xs : List ℕ) → take (length xs) xs ≡ xs
take-whole [] = refl
take-whole (x ∷ xs) = ap (λ (l : List ℕ). x ∷ l) (take-whole xs)

-- bytes that were written and let go on
pub wrote-kept : (a b c : Option (List ℕ)) (xs : List ℕ) → Appends a b xs → Keeps b c → Appends a c xs
wrote-kept None b c xs had keeps = tt
wrote-kept (Some x) None c xs had keeps = absurd had
wrote-kept (Some x) (Some y) None xs had keeps = absurd keeps
wrote-kept (Some x) (Some y) (Some z) xs had keeps = keeps ∙ had

-- all of them are a front
pub wrote-front : (a b c : Option (List ℕ)) (xs : List ℕ) → Appends a b xs → Keeps b c → (count : ℕ) × Appends a c (take count xs)
wrote-front a b c xs had keeps = (length xs, subst (Appends a c) (sym (take-whole xs)) (wrote-kept a b c xs had keeps))

-- nothing was accepted, and nothing was written
pub told-none : (old new : List Acceptance) (before after : Option (List ℕ)) → new ≡ old → after ≡ before → IsTold old new before after
told-none old new before after none same = record { more = []; new_is = none ∙ sym (append-nil old); wrote = keeps-none before after same }

-- no line was written of what was accepted
pub told-nothing : (old new more : List Acceptance) (before after : Option (List ℕ)) → new ≡ old ++ more → after ≡ before → IsToldFirst old new before after
told-nothing old new more before after is same = record { more = more; new_is = is; count = 0; wrote = keeps-none before after same }

pub told-all : (old new : List Acceptance) (before after : Option (List ℕ)) → IsTold old new before after → IsToldFirst old new before after
told-all old new before after told = record {
  more = told.more;
  new_is = told.new_is;
  count = length (reply_lines told.more);
  wrote = subst (Appends before after) (sym (take-whole (reply_lines told.more))) told.wrote;
}

-- all lines are whole
pub told-lines : (old new : List Acceptance) (before after : Option (List ℕ)) → IsTold old new before after → IsToldWhole old new before after
told-lines old new before after told = record {
  told = told.more;
  untold = [];
  new_is = told.new_is ∙ ap (λ (l : List Acceptance). old ++ l) (sym (append-nil told.more));
  wrote = told.wrote;
}

-- a fault that cuts no line off
pub whole-behind : {A : Type 0} (fault : ClientFault) → (fault ≡ faults.Trail → A) → (fault ≡ faults.NoMemory → A) → cuts_line fault ≡ false → A
whole-behind faults.Trail trail want uncut = trail refl
whole-behind faults.Output trail want uncut = absurd (true≢false uncut)
whole-behind faults.OutputMemory trail want uncut = absurd (true≢false uncut)
whole-behind faults.NoMemory trail want uncut = want refl

module _ (first old new : List Acceptance) (begun before after : Option (List ℕ)) (was : IsTold first old begun before) where
  -- the lines so far, and those of what was accepted since
  pub told-then : IsTold old new before after → IsTold first new begun after
  told-then told = record {
    more = was.more ++ told.more;
    new_is = told.new_is ∙ ap (λ (l : List Acceptance). l ++ told.more) was.new_is ∙ append_assoc first was.more told.more;
    wrote = subst (Appends begun after) (sym (flat_map-append reply_line was.more told.more)) (Appends-trans begun before after (reply_lines was.more) (reply_lines told.more) was.wrote told.wrote);
  }

  -- and a front of those
  pub told-up-to : IsToldFirst old new before after → IsToldFirst first new begun after
  told-up-to told =
      let x = reply_lines was.more in
      let y = reply_lines told.more in
      let all : take (length x + told.count) (reply_lines (was.more ++ told.more)) ≡ x ++ take told.count y =
      ap (take (length x + told.count)) (flat_map-append reply_line was.more told.more) ∙ take-append-add x y told.count in record {
        more = was.more ++ told.more;
        new_is = told.new_is ∙ ap (λ (l : List Acceptance). l ++ told.more) was.new_is ∙ append_assoc first was.more told.more;
        count = length x + told.count;
        wrote = subst (Appends begun after) (sym all) (Appends-trans begun before after x (take told.count y) was.wrote told.wrote);
      }

  -- and none of what was accepted since
  pub told-before : IsToldFirst old new before after → after ≡ before → IsToldWhole first new begun after
  told-before told same = record {
    told = was.more;
    untold = told.more;
    new_is = told.new_is ∙ ap (λ (l : List Acceptance). l ++ told.more) was.new_is ∙ append_assoc first was.more told.more;
    wrote = subst (λ (o : Option (List ℕ)). Appends begun o (reply_lines was.more)) (sym same) was.wrote;
  }

  -- and whole lines of that
  pub told-whole : IsToldWhole old new before after → IsToldWhole first new begun after
  told-whole told = record {
    told = was.more ++ told.told;
    untold = told.untold;
    new_is = told.new_is ∙ ap (λ (l : List Acceptance). l ++ (told.told ++ told.untold)) was.new_is ∙ append_assoc first was.more (told.told ++ told.untold)
        ∙ ap (λ (l : List Acceptance). first ++ l) (sym (append_assoc was.more told.told told.untold));
    wrote = subst (Appends begun after) (sym (flat_map-append reply_line was.more told.told)) (Appends-trans begun before after (reply_lines was.more) (reply_lines told.told) was.wrote told.wrote);
  }
