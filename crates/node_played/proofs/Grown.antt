-- What one more event of a trail keeps of what a core keeps with its trail.
use Rattle.std.proofs.Common.{◌≡◌, ℕ, ◌≤◌, ◌+◌, max, Bool, true, false, ◌||◌, true≢false, List, [], ◌∷◌, ◌++◌, length, map, drop, Some, refl, sym, ap, subst, ◌∙◌, arith, length-append}
use Rattle.std.proofs.lemmas.List.{drop-append-le, map-append, length-map}
use Rattle.std.proofs.Math.Seq.{drop-append_seam}
use Rattle.smart_statements.specs.declared.entry.NodeEvent.{NodeEvent}
use Rattle.smart_statements.specs.declared.entry.NodeEvent.TheVariants.{Arrive, Tick, Deliver, Firm}
use Rattle.smart_service.specs.Services.{Meaning}
use Rattle.vote_book.specs.Entries.{entry_text}
use Rattle.vote_book.specs.declared.entry.LogEntry.{LogEntry}
use Rattle.node_rules.specs.Entries.{AddsAtMost}
use Rattle.node_rules.specs.Kept.{core_step, trimmed}
use Rattle.node_rules.specs.Nodes.{Node}
use Rattle.node_rules.specs.Steps.{first_leaving}
use Rattle.node_rules.specs.declared.node.Held.{Held}
use Rattle.node_rules.proofs.Entries.{few_by_core}
use Rattle.replica_laws.proofs.Longer.{told_firm, longer-step}
use Rattle.trail.specs.declared.event.Addressed.{Addressed}
use Rattle.trail.specs.declared.event.TrailEvent.{TrailEvent}
use Rattle.trail.specs.declared.event.TrailEvent.TheVariants.{Happens, Send, End}
use Rattle.trail_rules.specs.Replays.{core_steps, one_left, after, replay, IsRelease, MayCome, Released, need_of, needed}
use Rattle.trail_rules.proofs.Grows.{replay-more, released-more, needed-more, need-firm}
use Rattle.node_played.specs.Lives.{made_texts, IsRead, is_end, has_end, IsEndLast}

-- ---- what a step keeps

pub restored-core : {S : Type 0} (m : Meaning S) (n : Node S) (event : NodeEvent) → (core_step m n event).node.restored ≡ n.restored
unfolding core_step trimmed
restored-core {S} m n event = (longer-step m n event).restored_is ∙ told n event
  where
    told : (x : Node S) (e : NodeEvent) → (told_firm x e).restored ≡ x.restored
    told x (Arrive bytes) = refl
    told x Tick = refl
    told x Deliver = refl
    told x (Firm count) = refl

firm-core : {S : Type 0} (m : Meaning S) (n : Node S) (event : NodeEvent) → (core_step m n event).node.firm ≡ (told_firm n event).firm
unfolding core_step trimmed
firm-core m n event = (longer-step m n event).firm_is

-- what is firm after an event whose number was read
firm-told : {S : Type 0} (n : Node S) (event : NodeEvent) (restored read : ℕ) → n.restored ≡ restored → n.firm ≤ restored + read → IsRead read event → (told_firm n event).firm ≤ restored + read
firm-told n (Arrive bytes) restored read is firm few = firm
firm-told n Tick restored read is firm few = firm
firm-told n Deliver restored read is firm few = firm
firm-told n (Firm count) restored read is firm few = omega (arith, is, few)

-- the texts of a life whose book has grown
texts-grown : (restored most : ℕ) (before after : List LogEntry) → restored ≤ length before → AddsAtMost most before after
    → made_texts restored after ≡ made_texts restored before ++ map entry_text (drop (length before) after)
texts-grown restored most before after few adds =
    let split : drop restored after ≡ drop restored before ++ adds.more = ap (drop restored) adds.is ∙ drop-append-le restored before adds.more few in
    let last : drop (length before) after ≡ adds.more = ap (drop (length before)) adds.is ∙ drop-append_seam before adds.more in
    ap (map entry_text) split ∙ map-append entry_text (drop restored before) adds.more ∙ ap (λ (es : List LogEntry). map entry_text (drop restored before) ++ map entry_text es) (sym last)

-- few entries come behind those of before
pub few-behind : (most : ℕ) (before after : List LogEntry) → AddsAtMost most before after → length (drop (length before) after) ≤ most
few-behind most before after adds =
    let last : length (drop (length before) after) ≡ length adds.more = ap length (ap (drop (length before)) adds.is ∙ drop-append_seam before adds.more) in
    omega (arith, last, adds.few)

few-grown : (restored most : ℕ) (before after : List LogEntry) → restored ≤ length before → AddsAtMost most before after → restored ≤ length after
few-grown restored most before after few adds =
    let longer : length after ≡ length before + length adds.more = ap length adds.is ∙ length-append before adds.more in
    omega (arith, longer, few)

-- ---- an event of the node

module _ {S : Type 0} (m : Meaning S) (opening : Node S) (es new : List TrailEvent) (event : NodeEvent) (longer : new ≡ es ++ Happens event ∷ []) where
  replayed : replay (core_steps m) opening new ≡ (core_step m (replay (core_steps m) opening es) event).node
  replayed = ap (replay (core_steps m) opening) longer ∙ replay-more (core_steps m) opening es (Happens event)

  pub kept_by : (old core : Node S) → old ≡ replay (core_steps m) opening es → core ≡ (core_step m old event).node → core ≡ replay (core_steps m) opening new
  kept_by old core was is = is ∙ ap (λ (n : Node S). (core_step m n event).node) was ∙ sym replayed

  pub restored_by : (restored : ℕ) → (replay (core_steps m) opening es).restored ≡ restored → (replay (core_steps m) opening new).restored ≡ restored
  restored_by restored was = ap (λ (n : Node S). n.restored) replayed ∙ restored-core m (replay (core_steps m) opening es) event ∙ was

  pub few_by : (restored : ℕ) → restored ≤ length (replay (core_steps m) opening es).entries → restored ≤ length (replay (core_steps m) opening new).entries
  few_by restored was =
      subst (λ (n : Node S). restored ≤ length n.entries) (sym replayed)
      (few-grown restored 8 (replay (core_steps m) opening es).entries _ was (few_by_core m (replay (core_steps m) opening es) event))

  pub put_by : (restored : ℕ) (old core : Node S) (before now : List (List ℕ)) → old ≡ replay (core_steps m) opening es → core ≡ (core_step m old event).node
      → restored ≤ length (replay (core_steps m) opening es).entries → before ≡ made_texts restored (replay (core_steps m) opening es).entries
      → now ≡ before ++ map entry_text (drop (length old.entries) core.entries) → now ≡ made_texts restored (replay (core_steps m) opening new).entries
  put_by restored old core before now was is few put grew =
      let last : core ≡ replay (core_steps m) opening new = kept_by old core was is in
      let more : map entry_text (drop (length old.entries) core.entries) ≡ map entry_text (drop (length (replay (core_steps m) opening es).entries) (replay (core_steps m) opening new).entries) =
      ap (λ (n : Node S). map entry_text (drop (length n.entries) core.entries)) was ∙ ap (λ (n : Node S). map entry_text (drop (length (replay (core_steps m) opening es).entries) n.entries)) last in
      let adds : AddsAtMost 8 (replay (core_steps m) opening es).entries (replay (core_steps m) opening new).entries =
      subst (λ (n : Node S). AddsAtMost 8 (replay (core_steps m) opening es).entries n.entries) (sym replayed) (few_by_core m (replay (core_steps m) opening es) event) in
      grew ∙ ap (λ (l : List (List ℕ)). l ++ map entry_text (drop (length old.entries) core.entries)) put
      ∙ ap (λ (l : List (List ℕ)). made_texts restored (replay (core_steps m) opening es).entries ++ l) more
      ∙ sym (texts-grown restored 8 (replay (core_steps m) opening es).entries (replay (core_steps m) opening new).entries few adds)

  pub firm_by : (restored read now : ℕ) → (replay (core_steps m) opening es).restored ≡ restored → (replay (core_steps m) opening es).firm ≤ restored + read → IsRead read event → now ≡ read
      → (replay (core_steps m) opening new).firm ≤ restored + now
  firm_by restored read now is firm few same =
      let told : (replay (core_steps m) opening new).firm ≡ (told_firm (replay (core_steps m) opening es) event).firm =
      ap (λ (n : Node S). n.firm) replayed ∙ firm-core m (replay (core_steps m) opening es) event in
      let within = firm-told (replay (core_steps m) opening es) event restored read is firm few in
      omega (arith, told, within, same)

  pub needs_by : (bound now : ℕ) → needed (core_steps m) opening es ≤ bound → now ≡ bound → needed (core_steps m) opening new ≤ now
  needs_by bound now was same =
      let more : needed (core_steps m) opening new ≡ max (needed (core_steps m) opening es) 0 =
      ap (needed (core_steps m) opening) longer ∙ needed-more (core_steps m) opening es (Happens event) in
      omega (arith, more, was, same)

  pub released_by : Released (core_steps m) opening es → Released (core_steps m) opening new
  released_by was = subst (Released (core_steps m) opening) (sym longer) (released-more (core_steps m) opening es (Happens event) was tt)

-- ---- a Send

module _ {S : Type 0} (m : Meaning S) (opening : Node S) (es new : List TrailEvent) (a : Addressed) (longer : new ≡ es ++ Send a ∷ []) where
  replayed_on : replay (core_steps m) opening new ≡ one_left (replay (core_steps m) opening es)
  replayed_on = ap (replay (core_steps m) opening) longer ∙ replay-more (core_steps m) opening es (Send a)

  pub kept_on : (old core : Node S) → old ≡ replay (core_steps m) opening es → core ≡ one_left old → core ≡ replay (core_steps m) opening new
  kept_on old core was is = is ∙ ap one_left was ∙ sym replayed_on

  -- a Send changes nothing but what is held
  pub same_on : (P : ℕ → List LogEntry → ℕ → Type 0) → P (replay (core_steps m) opening es).restored (replay (core_steps m) opening es).entries (replay (core_steps m) opening es).firm
      → P (replay (core_steps m) opening new).restored (replay (core_steps m) opening new).entries (replay (core_steps m) opening new).firm
  same_on P was = subst (λ (n : Node S). P n.restored n.entries n.firm) (sym replayed_on) was

  pub needs_on : (bound : ℕ) → (replay (core_steps m) opening es).firm ≤ bound → needed (core_steps m) opening es ≤ bound → needed (core_steps m) opening new ≤ bound
  needs_on bound firm was =
      let more : needed (core_steps m) opening new ≡ max (needed (core_steps m) opening es) (need_of (replay (core_steps m) opening es) (Send a)) =
      ap (needed (core_steps m) opening) longer ∙ needed-more (core_steps m) opening es (Send a) in
      let few = need-firm (replay (core_steps m) opening es) (Send a) in
      omega (arith, more, was, few, firm)

  pub released_on : MayCome (replay (core_steps m) opening es) (Send a) → Released (core_steps m) opening es → Released (core_steps m) opening new
  released_on may was = subst (Released (core_steps m) opening) (sym longer) (released-more (core_steps m) opening es (Send a) was may)

-- ---- the end

module _ {S : Type 0} (m : Meaning S) (opening : Node S) (es new : List TrailEvent) (longer : new ≡ es ++ End ∷ []) where
  pub replayed_end : replay (core_steps m) opening new ≡ replay (core_steps m) opening es
  replayed_end = ap (replay (core_steps m) opening) longer ∙ replay-more (core_steps m) opening es End

  pub needed_end : needed (core_steps m) opening new ≡ needed (core_steps m) opening es
  needed_end =
      let more : needed (core_steps m) opening new ≡ max (needed (core_steps m) opening es) 0 =
      ap (needed (core_steps m) opening) longer ∙ needed-more (core_steps m) opening es End in
      omega (arith, more)

  pub released_end : Released (core_steps m) opening es → Released (core_steps m) opening new
  released_end was = subst (Released (core_steps m) opening) (sym longer) (released-more (core_steps m) opening es End was tt)

-- ---- the beginning

-- the lane of a core at its opening
pub put_first : {S : Type 0} (m : Meaning S) (opening core : Node S) (restored count : ℕ) (es : List TrailEvent) (book : List LogEntry) (texts before now : List (List ℕ))
    → core ≡ opening → opening.restored ≡ restored → es ≡ [] → count ≡ core.restored → book ≡ core.entries → texts ≡ map entry_text (drop count book) → before ≡ [] → now ≡ before ++ texts
    → now ≡ made_texts restored (replay (core_steps m) opening es).entries
put_first {S} m opening core restored count es book texts before now same begins none number is made empty put =
    let behind : count ≡ restored = number ∙ ap (λ (n : Node S). n.restored) same ∙ begins in
    let all : book ≡ (replay (core_steps m) opening es).entries =
    is ∙ ap (λ (n : Node S). n.entries) same ∙ ap (λ (l : List TrailEvent). (replay (core_steps m) opening l).entries) (sym none) in
    put ∙ ap (λ (l : List (List ℕ)). l ++ texts) empty ∙ made ∙ ap (λ (n : ℕ). map entry_text (drop n book)) behind
    ∙ ap (λ (b : List LogEntry). map entry_text (drop restored b)) all

-- ---- that an End is last

neither : (a b : Bool) → (a || b) ≡ false → (a ≡ false) × (b ≡ false)
neither true b none = absurd (true≢false none)
neither false b none = (refl, none)

none-more : (es : List TrailEvent) (e : TrailEvent) → has_end es ≡ false → is_end e ≡ false → has_end (es ++ e ∷ []) ≡ false
none-more [] e none own = ap (λ (b : Bool). b || false) own
none-more (x ∷ es) e none own =
    let both = neither (is_end x) (has_end es) none in
    ap (λ (b : Bool). b || has_end (es ++ e ∷ [])) both.0 ∙ none-more es e both.1 own

end-more : (es : List TrailEvent) → has_end (es ++ End ∷ []) ≡ true
end-more [] = refl
end-more (x ∷ es) = ap (λ (b : Bool). is_end x || b) (end-more es) ∙ either (is_end x)
  where
    either : (b : Bool) → (b || true) ≡ true
    either true = refl
    either false = refl

last-more : (es : List TrailEvent) (e : TrailEvent) → has_end es ≡ false → (before behind : List TrailEvent) → es ++ e ∷ [] ≡ before ++ End ∷ behind → behind ≡ []
last-more [] e none [] behind is = sym (ap (drop 1) is)
last-more [] e none (y ∷ before) behind is =
    absurd (omega (arith, ap length is, length-append before (End ∷ behind)))
last-more (x ∷ es) e none [] behind is =
    let both = neither (is_end x) (has_end es) none in
    absurd (true≢false (sym (ap first_ends is) ∙ both.0))
  where
    first_ends : List TrailEvent → Bool
    first_ends [] = false
    first_ends (f ∷ fs) = is_end f
last-more (x ∷ es) e none (y ∷ before) behind is = last-more es e (neither (is_end x) (has_end es) none).1 before behind (ap (drop 1) is)

-- no End stands in an empty trail
pub last_none : (es : List TrailEvent) → es ≡ [] → IsEndLast es
last_none es none = λ before behind is. absurd (omega (arith, ap length (sym none ∙ is), length-append before (End ∷ behind)))

module _ (es new : List TrailEvent) (e : TrailEvent) (longer : new ≡ es ++ e ∷ []) (none : has_end es ≡ false) where
  -- no End stands in a trail with one more event that is none
  pub goes_by : is_end e ≡ false → has_end new ≡ false
  goes_by own = ap has_end longer ∙ none-more es e none own

  -- an event behind no End leaves an End last
  pub last_by : IsEndLast new
  last_by = λ before behind is. last-more es e none before behind (sym longer ∙ is)

pub ends_by : (es new : List TrailEvent) → new ≡ es ++ End ∷ [] → true ≡ has_end new
ends_by es new longer = sym (ap has_end longer ∙ end-more es)

-- what a core releases is the next release of the replay that it is
pub releases : {S : Type 0} (old n : Node S) (a : Addressed) (h : Held) → old ≡ n → Some h ≡ first_leaving old.firm old.held → h.to ≡ a.to → h.message ≡ a.message → MayCome n (Send a)
releases {S} old n a h same is to message = subst (IsRelease a) (is ∙ ap (λ (x : Node S). first_leaving x.firm x.held) same) (to, message)

-- the texts of an event are those behind the entries of before
pub texts_are : (before after book : List LogEntry) (made : ℕ) (texts : List (List ℕ)) → made ≡ length before → book ≡ after → texts ≡ map entry_text (drop made book)
    → texts ≡ map entry_text (drop (length before) after)
texts_are before after book made texts count same is =
    is ∙ ap (λ (n : ℕ). map entry_text (drop n book)) count ∙ ap (λ (es : List LogEntry). map entry_text (drop (length before) es)) same

-- and they are few
pub room_for : {S : Type 0} (m : Meaning S) (old core : Node S) (event : NodeEvent) (texts : List (List ℕ)) (room : ℕ) → core ≡ (core_step m old event).node
    → texts ≡ map entry_text (drop (length old.entries) core.entries) → 8 ≤ room → length texts ≤ room
room_for {S} m old core event texts room is same enough =
    let adds : AddsAtMost 8 old.entries core.entries = subst (λ (n : Node S). AddsAtMost 8 old.entries n.entries) (sym is) (few_by_core m old event) in
    let few = few-behind 8 old.entries core.entries adds in
    let count : length texts ≡ length (drop (length old.entries) core.entries) = ap length same ∙ length-map (drop (length old.entries) core.entries) entry_text in
    omega (arith, count, few, enough)
