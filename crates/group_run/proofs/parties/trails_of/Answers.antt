use Rattle.std.proofs.Common.{◌≡◌, ◌∙◌, ℕ, ◌-◌, List, [], ◌∷◌, ◌++◌, length, length-append, ap, arith}
use Rattle.std.proofs.lemmas.List.{nil_from_length}
use Rattle.group_parties.specs.Gathered.{recorded_of, trails_in}
use Rattle.audit_rules.specs.declared.recorded.Recorded.{Recorded}
use Rattle.group_ends.specs.declared.inbox.Inbox.{Inbox}
use Rattle.group_wires.specs.declared.row.Row.{Row}
use Rattle.group_run.proofs.Turnings.{gathered-first, gathered-more, gathered-all, rotated}
use Rattle.group_run.proofs.parties.trails_of.Goals as goal

pub loop-lived-init : goal.loop-lived-init
loop-lived-init c =
    let head = c.args.head in
    let client = c.args.lives.client in
    let made = c.add_party.new.made in
    let is = c.in_ok-add_party.ensures in record {
      many = c.requires;
      gathered = gathered-first head client c.args.heads.items c.args.lives.members.items made.recorded.items made.rows.items made.inboxes.items made.whole
          (is.trail ∙ ap (λ (xs : List Recorded). xs ++ recorded_of head c.new-4.result client ∷ []) c.new.ensures.items ∙ ap (λ (es : List (List ℕ)). recorded_of head es client ∷ []) c.new-4.ensures)
          (is.row ∙ ap (λ (xs : List Row). xs ++ client.row ∷ []) c.new-2.ensures.items) (is.inbox ∙ ap (λ (xs : List Inbox). xs ++ client.inbox ∷ []) c.new-3.ensures.items) is.whole;
    }

pub loop-lived-preserved : goal.loop-lived-preserved
loop-lived-preserved c =
    let l = c.loop-lived in
    let made = c.add_party-in-Some.new.made in
    let is = c.in_ok-add_party-2.ensures in record {
      many = omega (arith, l.invariant.many, c.in-Some.ensures.cases, c.in-Some-pop.ensures.cases);
      gathered = gathered-more c.pop-in-Some.new.self.items c.in-Some-pop.headed c.pop.new.self.items c.in-Some.lived made.recorded.items made.rows.items made.inboxes.items made.whole
          l.invariant.gathered c.in-Some-pop.ensures.items c.in-Some.ensures.items is.trail is.row is.inbox is.whole;
    }

pub returns : goal.returns
returns c =
    let l = c.loop-lived in
    let no_lives : l.members.items ≡ [] = nil_from_length l.members.items (omega (arith, l.members.ok.0, c.in_default.ensures.cases.0)) in
    let no_heads : l.heads.items ≡ [] = nil_from_length l.heads.items (omega (arith, l.heads.ok.0, l.invariant.many, c.in_default.ensures.cases.0)) in
    let all = gathered-all l.invariant.gathered no_heads no_lives in
    let turned = c.reverse-3.new.self in
    let trails = trails_in c.args.heads.items c.args.lives.members.items in
    let client = recorded_of c.args.head [] c.args.lives.client in
    let is : turned.items ≡ trails ++ client ∷ [] = c.reverse-3.ensures.items ∙ all.recorded_are in record {
      trails = c.rotate_right.ensures.items ∙ rotated turned.items trails client (turned.len - 1) is (omega (arith, ap length is, length-append trails (client ∷ []), turned.ok.0));
      whole = all.whole_are;
      rows = c.reverse.ensures.items ∙ all.rows_are;
      inboxes = c.reverse-2.ensures.items ∙ all.inboxes_are;
    }
