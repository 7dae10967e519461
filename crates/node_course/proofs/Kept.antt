-- What a course keeps with its trail, at the number of its member, and that events, messages that leave and the end keep it.
use Rattle.std.proofs.Common.{◌≡◌, ℕ, ◌≤◌, ◌+◌, Bool, false, List, [], ◌∷◌, ◌++◌, length, map, drop, refl, sym, ap, subst, ◌∙◌, arith}
use Rattle.atomic_table.specs.Seated.{TableId}
use Rattle.smart_statements.specs.declared.entry.NodeEvent.{NodeEvent}
use Rattle.smart_service.specs.Services.{Meaning}
use Rattle.vote_book.specs.Entries.{entry_text}
use Rattle.vote_book.specs.declared.entry.LogEntry.{LogEntry}
use Rattle.node_rules.specs.Kept.{core_step}
use Rattle.node_rules.specs.Nodes.{Node}
use Rattle.node_rules.specs.declared.node.Target.{Target}
use Rattle.trail.specs.declared.event.Addressed.{Addressed}
use Rattle.trail.specs.declared.event.TrailEvent.{TrailEvent}
use Rattle.trail.specs.declared.event.TrailEvent.TheVariants.{Happens, Send, End}
use Rattle.trail_rules.specs.Replays.{core_steps, one_left, replay, needed, MayCome, Released}
use Rattle.group_ends.specs.Ports.{IsPosted}
use Rattle.node_played.proofs.Grown.{kept_by, restored_by, few_by, put_by, firm_by, needs_by, released_by, replayed_end, needed_end, released_end}
use Rattle.node_played.specs.Lives.{made_texts, IsRead}
use Rattle.node_course.proofs.Posted.{kept-posted, same-posted, needs-posted, released-posted}

module _ {S : Type 0} (m : Meaning S) (openings : ℕ → Node S) (restoreds : ℕ → ℕ) (lanes : ℕ → TableId × TableId) where
  -- the facts of a course, on plain values
  pub record Keeps (at : ℕ) (es : List TrailEvent) (core : Node S) (broken stuck : Bool) (texts : List (List ℕ)) (read : ℕ) (lane : TableId × TableId) : Type 0 where
    pub kept : stuck ≡ false → (broken ≡ false) × (core ≡ replay (core_steps m) (openings at) es)
    pub restored : (replay (core_steps m) (openings at) es).restored ≡ restoreds at
    pub few : restoreds at ≤ length (replay (core_steps m) (openings at) es).entries
    pub put : texts ≡ made_texts (restoreds at) (replay (core_steps m) (openings at) es).entries
    pub firm : (replay (core_steps m) (openings at) es).firm ≤ restoreds at + read
    pub needs : needed (core_steps m) (openings at) es ≤ restoreds at + read
    pub released : Released (core_steps m) (openings at) es
    pub named : lane ≡ lanes at

  -- a trail keeps its member's number
  same-number : (at now : ℕ) (es : List TrailEvent) (core : Node S) (broken stuck : Bool) (texts : List (List ℕ)) (read : ℕ) (lane : TableId × TableId) → now ≡ at
      → Keeps at es core broken stuck texts read lane → Keeps now es core broken stuck texts read lane
  same-number at now es core broken stuck texts read lane same k = subst (λ (n : ℕ). Keeps n es core broken stuck texts read lane) (sym same) k

  module _ (at now : ℕ) (es new : List TrailEvent) (before core : Node S) (was broken : Bool) (texts next : List (List ℕ)) (read last : ℕ) (lane this : TableId × TableId) (same : now ≡ at) (k : Keeps at es before was false texts read lane) where
    -- the core of before is the replay
    old : before ≡ replay (core_steps m) (openings at) es
    old = (k.kept refl).1

    pub keeps-event : (event : NodeEvent) (more : List (List ℕ)) → new ≡ es ++ Happens event ∷ [] → broken ≡ false → core ≡ (core_step m before event).node → next ≡ texts ++ more
        → more ≡ map entry_text (drop (length before.entries) core.entries) → IsRead read event → last ≡ read → this ≡ lane → Keeps now new core broken false next last this
    keeps-event event more longer well is put adds told found named =
        let grew : next ≡ texts ++ map entry_text (drop (length before.entries) core.entries) = put ∙ ap (λ (l : List (List ℕ)). texts ++ l) adds in
        same-number at now new core broken false next last this same (record {
          kept = λ _. (well, kept_by m (openings at) es new event longer before core old is);
          restored = restored_by m (openings at) es new event longer (restoreds at) k.restored;
          few = few_by m (openings at) es new event longer (restoreds at) k.few;
          put = put_by m (openings at) es new event longer (restoreds at) before core texts next old is k.few k.put grew;
          firm = firm_by m (openings at) es new event longer (restoreds at) read last k.restored k.firm told found;
          needs = needs_by m (openings at) es new event longer (restoreds at + read) (restoreds at + last) k.needs (ap (λ (n : ℕ). restoreds at + n) found);
          released = released_by m (openings at) es new event longer k.released;
          named = named ∙ k.named;
        })

    pub keeps-posted : (a : Addressed) (targets : List Target) → IsPosted a targets es new → MayCome (replay (core_steps m) (openings at) es) (Send a) → broken ≡ was → core ≡ one_left before
        → Keeps now new core broken false texts read lane
    keeps-posted a targets posted may well is =
        same-number at now new core broken false texts read lane same (record {
          kept = λ _. (well ∙ (k.kept refl).0, kept-posted m (openings at) es new a targets posted before core old is);
          restored = same-posted m (openings at) es new a targets posted (λ (r : ℕ) (xs : List LogEntry) (firm : ℕ). r ≡ restoreds at) k.restored;
          few = same-posted m (openings at) es new a targets posted (λ (r : ℕ) (xs : List LogEntry) (firm : ℕ). restoreds at ≤ length xs) k.few;
          put = same-posted m (openings at) es new a targets posted (λ (r : ℕ) (xs : List LogEntry) (firm : ℕ). texts ≡ made_texts (restoreds at) xs) k.put;
          firm = same-posted m (openings at) es new a targets posted (λ (r : ℕ) (xs : List LogEntry) (firm : ℕ). firm ≤ restoreds at + read) k.firm;
          needs = needs-posted m (openings at) es new a targets posted (restoreds at + read) k.firm k.needs;
          released = released-posted m (openings at) es new a targets posted may k.released;
          named = k.named;
        })

  pub keeps-end : (at now : ℕ) (es new : List TrailEvent) (core : Node S) (broken stuck : Bool) (texts : List (List ℕ)) (read : ℕ) (lane : TableId × TableId) → now ≡ at → new ≡ es ++ End ∷ []
      → Keeps at es core broken stuck texts read lane → Keeps now new core broken stuck texts read lane
  keeps-end at now es new core broken stuck texts read lane same longer k =
      let back : replay (core_steps m) (openings at) es ≡ replay (core_steps m) (openings at) new = sym (replayed_end m (openings at) es new longer) in
      same-number at now new core broken stuck texts read lane same (record {
        kept = λ is. ((k.kept is).0, (k.kept is).1 ∙ back);
        restored = subst (λ (n : Node S). n.restored ≡ restoreds at) back k.restored;
        few = subst (λ (n : Node S). restoreds at ≤ length n.entries) back k.few;
        put = k.put ∙ ap (λ (n : Node S). made_texts (restoreds at) n.entries) back;
        firm = subst (λ (n : Node S). n.firm ≤ restoreds at + read) back k.firm;
        needs = subst (λ (n : ℕ). n ≤ restoreds at + read) (sym (needed_end m (openings at) es new longer)) k.needs;
        released = released_end m (openings at) es new longer k.released;
        named = k.named;
      })

  -- a core at its opening, behind which nothing has happened yet
  pub keeps-open : (at : ℕ) (es : List TrailEvent) (core : Node S) (broken : Bool) (count : ℕ) (book : List LogEntry) (before more next : List (List ℕ)) (read : ℕ) (lane : TableId × TableId) → es ≡ [] → core ≡ openings at
      → broken ≡ false → (openings at).restored ≡ restoreds at → (openings at).firm ≤ restoreds at → restoreds at ≤ length (openings at).entries → count ≡ core.restored → book ≡ core.entries
      → more ≡ map entry_text (drop count book) → before ≡ [] → next ≡ before ++ more → lane ≡ lanes at → Keeps at es core broken false next read lane
  keeps-open at es core broken count book before more next read lane none is well begins firm few number all made empty grew named =
      let behind : count ≡ restoreds at = number ∙ ap (λ (n : Node S). n.restored) is ∙ begins in
      let put : next ≡ made_texts (restoreds at) (openings at).entries =
      grew ∙ ap (λ (l : List (List ℕ)). l ++ more) empty ∙ made ∙ ap (λ (n : ℕ). map entry_text (drop n book)) behind
      ∙ ap (λ (b : List LogEntry). map entry_text (drop (restoreds at) b)) (all ∙ ap (λ (n : Node S). n.entries) is) in
      subst (λ (xs : List TrailEvent). Keeps at xs core broken false next read lane) (sym none) (record {
        kept = λ _. (well, is);
        restored = begins;
        few = few;
        put = put;
        firm = omega (arith, firm);
        needs = omega arith;
        released = tt;
        named = named;
      })
