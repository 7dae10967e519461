-- A reply that no reason ignores counts, in a view that the client knows.
use Rattle.std.proofs.Common.{◌≡◌, ◌∙◌, ℕ, Bool, true, false, not, List, refl, ap, sym, cond, Option, Some, None}
use Rattle.smart_base.specs.Views.{View}
use Rattle.smart_statements.specs.Forms.{SignedBy}
use Rattle.smart_statements.specs.Kinds.{answers}
use Rattle.smart_statements.specs.declared.statement.Request.{Request}
use Rattle.smart_statements.specs.declared.statement.Answer.{Answer}
use Rattle.replica_rules.specs.Seals.{is_verified}
use Rattle.client_quorum.specs.Clients.{is_waited_for, known, why_uncounted, why_ignored, count_heard, heard_unless, heard, after_heard}
use Rattle.client_quorum.specs.declared.client.Client.{Client}
use Rattle.client_quorum.specs.declared.client.Heard.{Heard}
use Rattle.client_quorum.specs.declared.client.Ignored.{Ignored}

-- where no reason applies, none of the later ones does
later : (t : Bool) (x : Ignored) (rest : Option Ignored) → cond (not t) (Some x) rest ≡ None → rest ≡ None
later true x rest none = none
later false x rest none = absurd (cc)

-- the client knows the view that is stated
known_counted : (secret : List ℕ) (c : Client) (a : SignedBy Answer) → why_ignored secret c a ≡ None → (v : View) × (known c a.statement.view ≡ Some v)
unfolding why_ignored
known_counted secret c a none = by (known c a.statement.view) (later (is_waited_for c.waiting a.statement) _ _ (later (is_verified answers secret a) _ _ none)) refl
  where
    by : (found : Option View) → why_uncounted found c a ≡ None → known c a.statement.view ≡ found → (v : View) × (known c a.statement.view ≡ Some v)
    by None none is = absurd (cc)
    by (Some v) none is = (v, is)

module _ (secret : List ℕ) (c : Client) (a : SignedBy Answer) (q : Request) (none : why_ignored secret c a ≡ None) (waits : c.waiting ≡ Some q) where
  -- what the client makes of the reply is the count
  pub heard_is : (h : Heard) → ((v : View) → known c a.statement.view ≡ Some v → h ≡ count_heard v c a q) → h ≡ heard secret c a
  unfolding heard
  heard_is h counted =
      let found = known_counted secret c a none in
      counted found.0 found.1
      ∙ sym
      (ap (λ (why : Option Ignored). heard_unless c a why c.waiting (known c a.statement.view)) none
      ∙ ap (λ (waiting : Option Request). heard_unless c a None waiting (known c a.statement.view)) waits
      ∙ ap (λ (view : Option View). heard_unless c a None (Some q) view) found.1)

  -- and so is the client behind it
  pub after_is : (next : Client) (h : Heard) → ((v : View) → known c a.statement.view ≡ Some v → next ≡ after_heard (record c { waiting = Some q }) a h) → h ≡ heard secret c a
      → next ≡ after_heard c a (heard secret c a)
  after_is next h counted is =
      let found = known_counted secret c a none in
      let same : record c { waiting = Some q } ≡ c = ap (λ (waiting : Option Request). record c { waiting = waiting }) (sym waits) in
      counted found.0 found.1 ∙ ap (λ (x : Client). after_heard x a h) same ∙ ap (λ (x : Heard). after_heard c a x) is
