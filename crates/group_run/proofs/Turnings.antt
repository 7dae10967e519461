-- How the trails of a group are gathered from its last member to its first.
use Rattle.std.proofs.Common.{◌≡◌, ◌∙◌, ℕ, ◌+◌, ◌-◌, Bool, true, false, ◌&&◌, List, [], ◌∷◌, ◌++◌, length, length-append, map, take, drop, take_at, reverse, append_assoc, append-nil, refl, sym, ap, subst, true≢false, arith}
use Rattle.std.specs.List.{All}
use Rattle.std.proofs.lemmas.List.{drop_at}
use Rattle.std.proofs.lemmas.List.Elements.{All-nil, All-cons}
use Rattle.group_parties.specs.Gathered.{recorded_of, trails_in}
use Rattle.audit_rules.specs.declared.recorded.Recorded.{Recorded}
use Rattle.trail.specs.declared.opening.TrailOpening.{TrailOpening}
use Rattle.group_parties.specs.declared.crew.Headed.{Headed}
use Rattle.group_ends.specs.declared.inbox.Inbox.{Inbox}
use Rattle.group_wires.specs.declared.row.Row.{Row}
use Rattle.group_parties.specs.declared.ending.Lived.{Lived}
use Rattle.group_parties.proofs.Turned.{turned-push}

-- Of the members of a group these are left. The trails of the others stand behind the client's, from the last to the first, as do the ends of their links.
pub record AreGathered (head : TrailOpening) (client : Lived) (heads : List Headed) (lives : List Lived) (left_heads : List Headed) (left_lives : List Lived) (recorded : List Recorded) (rows : List Row) (inboxes : List Inbox) (whole : Bool) : Type 0 where
  pub headed : List Headed
  pub lived : List Lived
  pub heads_are : heads ≡ left_heads ++ headed
  pub lives_are : lives ≡ left_lives ++ lived
  pub recorded_are : reverse recorded ≡ trails_in headed lived ++ recorded_of head [] client ∷ []
  pub rows_are : reverse rows ≡ map (λ (l : Lived). l.row) lived ++ client.row ∷ []
  pub inboxes_are : reverse inboxes ≡ map (λ (l : Lived). l.inbox) lived ++ client.inbox ∷ []
  pub client_whole : whole ≡ true → client.whole ≡ true
  pub all_whole : whole ≡ true → All (λ (l : Lived). l.whole ≡ true) lived

only-one : {A : Type 0} (xs : List A) (x : A) → xs ≡ x ∷ [] → reverse xs ≡ x ∷ []
only-one xs x is = ap reverse is

pub gathered-first : (head : TrailOpening) (client : Lived) (heads : List Headed) (lives : List Lived) (recorded : List Recorded) (rows : List Row) (inboxes : List Inbox) (whole : Bool)
    → recorded ≡ recorded_of head [] client ∷ [] → rows ≡ client.row ∷ [] → inboxes ≡ client.inbox ∷ [] → whole ≡ client.whole → AreGathered head client heads lives heads lives recorded rows inboxes whole
gathered-first head client heads lives recorded rows inboxes whole recorded_is rows_is inboxes_is whole_is = record {
  headed = [];
  lived = [];
  heads_are = sym (append-nil heads);
  lives_are = sym (append-nil lives);
  recorded_are = only-one recorded (recorded_of head [] client) recorded_is;
  rows_are = only-one rows client.row rows_is;
  inboxes_are = only-one inboxes client.inbox inboxes_is;
  client_whole = λ is. sym whole_is ∙ is;
  all_whole = λ is. All-nil (λ (l : Lived). l.whole ≡ true);
}

both-true : (a b : Bool) → (a && b) ≡ true → (a ≡ true) × (b ≡ true)
both-true true b is = (refl, is)
both-true false b is = absurd (true≢false (sym is))

pub gathered-more : {head : TrailOpening} {client : Lived} {heads : List Headed} {lives : List Lived} {now_heads : List Headed} {now_lives : List Lived} {recorded : List Recorded} {rows : List Row} {inboxes : List Inbox} {whole : Bool}
    (hs : List Headed) (h : Headed) (ls : List Lived) (l : Lived) (new_recorded : List Recorded) (new_rows : List Row) (new_inboxes : List Inbox) (new_whole : Bool)
    → AreGathered head client heads lives now_heads now_lives recorded rows inboxes whole → now_heads ≡ hs ++ h ∷ [] → now_lives ≡ ls ++ l ∷ []
    → new_recorded ≡ recorded ++ recorded_of h.head h.entries l ∷ [] → new_rows ≡ rows ++ l.row ∷ [] → new_inboxes ≡ inboxes ++ l.inbox ∷ [] → new_whole ≡ (whole && l.whole)
    → AreGathered head client heads lives hs ls new_recorded new_rows new_inboxes new_whole
gathered-more {head} {client} {heads} {lives} {now_heads} {now_lives} {recorded} {rows} {inboxes} {whole} hs h ls l new_recorded new_rows new_inboxes new_whole was heads_now lives_now recorded_is rows_is inboxes_is whole_is = record {
  headed = h ∷ was.headed;
  lived = l ∷ was.lived;
  heads_are = was.heads_are ∙ ap (λ (xs : List Headed). xs ++ was.headed) heads_now ∙ append_assoc hs (h ∷ []) was.headed;
  lives_are = was.lives_are ∙ ap (λ (xs : List Lived). xs ++ was.lived) lives_now ∙ append_assoc ls (l ∷ []) was.lived;
  recorded_are = ap reverse recorded_is ∙ turned-push recorded (recorded_of h.head h.entries l) (trails_in was.headed was.lived ++ recorded_of head [] client ∷ []) was.recorded_are;
  rows_are = ap reverse rows_is ∙ turned-push rows l.row (map (λ (x : Lived). x.row) was.lived ++ client.row ∷ []) was.rows_are;
  inboxes_are = ap reverse inboxes_is ∙ turned-push inboxes l.inbox (map (λ (x : Lived). x.inbox) was.lived ++ client.inbox ∷ []) was.inboxes_are;
  client_whole = λ is. was.client_whole (both-true whole l.whole (sym whole_is ∙ is)).0;
  all_whole = λ is.
      let both = both-true whole l.whole (sym whole_is ∙ is) in
      All-cons (λ (x : Lived). x.whole ≡ true) l was.lived both.1 (was.all_whole both.0);
}

-- what stands last, turned to the front
pub rotated : {A : Type 0} (xs ts : List A) (x : A) (n : ℕ) → xs ≡ ts ++ x ∷ [] → n + 1 ≡ length xs → drop n xs ++ take n xs ≡ x ∷ ts
rotated {A} xs ts x n is many =
    let here : length ts ≡ n = omega (arith, ap length is, length-append ts (x ∷ []), many) in
    ap (λ (ys : List A). drop n ys ++ take n ys) is ∙ ap (λ (ys : List A). ys ++ take n (ts ++ x ∷ [])) (drop_at ts (x ∷ []) n here) ∙ ap (λ (ys : List A). x ∷ ys) (take_at ts (x ∷ []) n here)

none-left : {A : Type 0} (all left done : List A) → all ≡ left ++ done → left ≡ [] → all ≡ done
none-left {A} all left done split none = split ∙ ap (λ (xs : List A). xs ++ done) none

-- all are gathered
pub record AreAll (head : TrailOpening) (client : Lived) (heads : List Headed) (lives : List Lived) (recorded : List Recorded) (rows : List Row) (inboxes : List Inbox) (whole : Bool) : Type 0 where
  pub recorded_are : reverse recorded ≡ trails_in heads lives ++ recorded_of head [] client ∷ []
  pub rows_are : reverse rows ≡ map (λ (l : Lived). l.row) lives ++ client.row ∷ []
  pub inboxes_are : reverse inboxes ≡ map (λ (l : Lived). l.inbox) lives ++ client.inbox ∷ []
  pub whole_are : whole ≡ true → (client.whole ≡ true) × All (λ (l : Lived). l.whole ≡ true) lives

pub gathered-all : {head : TrailOpening} {client : Lived} {heads : List Headed} {lives : List Lived} {left_heads : List Headed} {left_lives : List Lived} {recorded : List Recorded} {rows : List Row} {inboxes : List Inbox} {whole : Bool}
    → AreGathered head client heads lives left_heads left_lives recorded rows inboxes whole → left_heads ≡ [] → left_lives ≡ [] → AreAll head client heads lives recorded rows inboxes whole
gathered-all {head} {client} {heads} {lives} {left_heads} {left_lives} {recorded} {rows} {inboxes} {whole} was no_heads no_lives =
    let headed : was.headed ≡ heads = sym (none-left heads left_heads was.headed was.heads_are no_heads) in
    let lived : was.lived ≡ lives = sym (none-left lives left_lives was.lived was.lives_are no_lives) in record {
      recorded_are = was.recorded_are ∙ ap (λ (hs : List Headed). trails_in hs was.lived ++ recorded_of head [] client ∷ []) headed ∙ ap (λ (ls : List Lived). trails_in heads ls ++ recorded_of head [] client ∷ []) lived;
      rows_are = was.rows_are ∙ ap (λ (ls : List Lived). map (λ (l : Lived). l.row) ls ++ client.row ∷ []) lived;
      inboxes_are = was.inboxes_are ∙ ap (λ (ls : List Lived). map (λ (l : Lived). l.inbox) ls ++ client.inbox ∷ []) lived;
      whole_are = λ is. (was.client_whole is, subst (λ (ls : List Lived). All (λ (l : Lived). l.whole ≡ true) ls) lived (was.all_whole is));
    }
