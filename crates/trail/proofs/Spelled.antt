-- What is read of a trail's events is spelled so, and what is spelled so is read.
use Rattle.std.proofs.Common.{◌≡◌, ℕ, ◌^◌, ◌<◌, Bool, true, false, cond, eqb, ◌||◌, List, [], ◌++◌, length, Result, Ok, Err, refl, sym, ap, subst, ◌∙◌, arith}
use Rattle.std.specs.Prelude.{IfOk}
use Rattle.std.specs.Int.{w8, w16, w64, to_be_bytes}
use Rattle.std.proofs.lemmas.Bool.{eqb-true}
use Rattle.std.proofs.lemmas.List.{nil_from_length}
use Rattle.smart_base.specs.Cuts.{Cut, IsBytes, ◌>>=◌, number_at, GivesAll}
use Rattle.smart_base.specs.FieldLaws.{u8_law, u16_law, u64_law}
use Rattle.smart_base.specs.Laws.{bind_ok, bind_is, ok_is, guard_ended, ranged_law}
use Rattle.smart_base.specs.Spelling.{u64}
use Rattle.smart_base.specs.declared.fault.ReadError.{ReadError}
use Rattle.smart_statements.specs.declared.entry.NodeEvent.TheVariants.{Arrive, Tick, Deliver, Firm}
use Rattle.smart_statements.proofs.Branches.{picked}
use Rattle.smart_messages.specs.Messages.{spelling, decoded, Fits}
use Rattle.smart_messages.specs.declared.message.Message.{Message}
use Rattle.smart_messages.proofs.Messages.{decoded_is, spelling_is}
use Rattle.node_rules.specs.declared.node.Target.{Target}
use Rattle.node_rules.specs.declared.node.Target.TheVariants.{Node, Client, View, Clients}
use Rattle.trail.specs.Events.{target_kind, target_id, is_one, addressed_text, FitsAddressed, is_target, is_id, target_of, target_kind_at, target_id_at, message_left, addressed_at, event_kind, event_content, event_text, FitsEvent, is_event_kind, event_kind_at, alone_at, number_left, lost_at, content_at, event_at, event_decoded}
use Rattle.trail.specs.declared.event.Addressed.{Addressed}
use Rattle.trail.specs.declared.event.TrailEvent.{TrailEvent}
use Rattle.trail.specs.declared.event.TrailEvent.TheVariants.{Happens, Send, Lost, Polls, End}
use Rattle.trail.proofs.Filled.{Filled, refill, whole_filled, then_filled, last_filled, bytes_filled}

-- ---- receivers

-- a kind and a number that are a receiver's are those of that receiver
known_by : (one two three four zero : Bool) (k i : ℕ) → (one ≡ true → k ≡ 1) → (two ≡ true → k ≡ 2) → (three ≡ true → k ≡ 3) → (four ≡ true → k ≡ 4) → (zero ≡ true → i ≡ 0)
    → (one || two || three || four) ≡ true → (one || two || zero) ≡ true
    → (target_kind (cond one (Node i) (cond two (Client i) (cond three View Clients))) ≡ k) × (target_id (cond one (Node i) (cond two (Client i) (cond three View Clients))) ≡ i)
known_by true two three four zero k i p q r s t kind id = (sym (p refl), refl)
known_by false true three four zero k i p q r s t kind id = (sym (q refl), refl)
known_by false false true four zero k i p q r s t kind id = (sym (r refl), sym (t id))
known_by false false false four zero k i p q r s t kind id = (sym (s kind), sym (t id))

known : (k i : ℕ) → is_target k ≡ true → is_id k i ≡ true → (target_kind (target_of k i) ≡ k) × (target_id (target_of k i) ≡ i)
known k i kind id =
    known_by (eqb k 1) (eqb k 2) (eqb k 3) (eqb k 4) (eqb i 0) k i (eqb-true k 1) (eqb-true k 2) (eqb-true k 3) (eqb-true k 4) (eqb-true i 0) kind id

back : (t : Target) → target_of (target_kind t) (target_id t) ≡ t
back (Node member) = refl
back (Client client) = refl
back View = refl
back Clients = refl

is-target : (t : Target) → is_target (target_kind t) ≡ true
is-target (Node member) = refl
is-target (Client client) = refl
is-target View = refl
is-target Clients = refl

is-id : (t : Target) → is_id (target_kind t) (target_id t) ≡ true
is-id (Node member) = refl
is-id (Client client) = refl
is-id View = refl
is-id Clients = refl

small-kind : (t : Target) → target_kind t < 2 ^ 8
small-kind (Node member) = omega arith
small-kind (Client client) = omega arith
small-kind View = omega arith
small-kind Clients = omega arith

-- ---- a message and who receives it

message_filled : Filled Fits spelling message_left
message_filled = bytes_filled Fits spelling decoded decoded_is spelling_is

abbrev IsKind : ℕ → Type 0
IsKind n = (n < 2 ^ 8) × (is_target n ≡ true)

abbrev IsId : ℕ → ℕ → Type 0
IsId k i = (i < 2 ^ 16) × (is_id k i ≡ true)

abbrev make : ℕ → ℕ → Message → Addressed
make k i m = record { to = target_of k i; message = m }

make_is : (a : Addressed) (k i : ℕ) → target_kind a.to ≡ k → target_id a.to ≡ i → make k i a.message ≡ a
make_is a k i p q = rw (← p, ← q, back a.to) refl

-- the parts of what is read behind the kind
abbrev Rest : ℕ → Addressed → Type 0
Rest k a = (Unit {0} × (target_kind a.to ≡ k)) × (IsId (target_kind a.to) (target_id a.to) × Fits a.message)

abbrev rest_text : Addressed → List ℕ
rest_text a = to_be_bytes w16 (target_id a.to) ++ spelling a.message

abbrev rest_at : ℕ → Cut → Result Addressed ℕ
rest_at k c = target_id_at k c >>= λ i. message_left i.1 >>= λ m. Ok (make k i.0 m)

rest_filled : (k : ℕ) → IsKind k → Filled (Rest k) rest_text (rest_at k)
rest_filled k is_k =
    refill _ (Rest k) rest_text (rest_at k)
    (then_filled (λ (a : Addressed). target_id a.to) (λ a. Unit {0} × (target_kind a.to ≡ k)) (IsId k) (to_be_bytes w16) (target_id_at k) _ _ _
    (ranged_law (λ n. n < 2 ^ 16) (to_be_bytes w16) (number_at w16) (is_id k) u16_law) λ i is_i.
    last_filled (λ (a : Addressed). a.message) (λ a. (Unit {0} × (target_kind a.to ≡ k)) × (target_id a.to ≡ i)) Fits spelling message_left
    (λ m. make k i m) message_filled
    (λ m h. let t = known k i is_k.1 is_i.1 in ((tt, t.0), t.1)) (λ m. refl) (λ a h. make_is a k i h.0.1 h.1))
    (λ a h. (h.0, (subst (λ (n : ℕ). IsId n (target_id a.to)) (sym h.0.1) h.1.0, h.1.1)))
    (λ a h. (h.0, (subst (λ (n : ℕ). IsId n (target_id a.to)) h.0.1 h.1.0, h.1.1)))

pub addressed_filled : Filled FitsAddressed addressed_text addressed_at
unfolding addressed_at addressed_text
addressed_filled =
    refill _ FitsAddressed addressed_text addressed_at
    (then_filled (λ (a : Addressed). target_kind a.to) (λ a. Unit {0}) IsKind (to_be_bytes w8) target_kind_at
    (λ a. IsId (target_kind a.to) (target_id a.to) × Fits a.message) rest_text rest_at
    (ranged_law (λ n. n < 2 ^ 8) (to_be_bytes w8) (number_at w8) is_target u8_law) rest_filled)
    (λ a h. record { id_fits = h.1.1.0.0; message_fits = h.1.1.1 })
    (λ a h. (tt, ((small-kind a.to, is-target a.to), ((h.id_fits, is-id a.to), h.message_fits))))

-- ---- events

number_filled : Filled (λ n. n < 2 ^ 64) u64 number_left
number_filled = whole_filled (λ n. n < 2 ^ 64) u64 (number_at w64) u64_law

-- an event of this kind was read
abbrev IsTaken : ℕ → Cut → TrailEvent → Type 0
IsTaken k c e = ((event_kind e ≡ k) × FitsEvent e) × (c.left ≡ event_content e)

alone_takes : (k : ℕ) (e : TrailEvent) → event_kind e ≡ k → FitsEvent e → event_content e ≡ [] → (c : Cut) (y : TrailEvent) → alone_at e c ≡ Ok y → IsTaken k c y
unfolding alone_at
alone_takes k e is fits none c y h =
    let g = guard_ended (eqb (length c.left) 0) c.at e y h in
    subst (IsTaken k c) g.1 ((is, fits), nil_from_length c.left (eqb-true _ _ g.0) ∙ sym none)

number_takes : (k : ℕ) (of : ℕ → TrailEvent) → ((n : ℕ) → event_kind (of n) ≡ k) → ((n : ℕ) → n < 2 ^ 64 → FitsEvent (of n)) → ((n : ℕ) → event_content (of n) ≡ u64 n)
    → (c : Cut) (y : TrailEvent) → IsBytes c.left → (number_left c >>= λ n. Ok (of n)) ≡ Ok y → IsTaken k c y
number_takes k of is fits text c y bs e =
    let b = bind_ok (number_left c) (λ n. Ok (of n)) y e in
    let t = number_filled.takes c b.0 bs b.1 in
    subst (IsTaken k c) (ok_is (of b.0) y b.2) ((is b.0, fits b.0 t.0), t.1 ∙ sym (text b.0))

sent_takes : (c : Cut) (y : TrailEvent) → IsBytes c.left → (addressed_at c >>= λ a. Ok (Send a)) ≡ Ok y → IsTaken 5 c y
sent_takes c y bs e =
    let b = bind_ok (addressed_at c) (λ a. Ok (Send a)) y e in
    let t = addressed_filled.takes c b.0 bs b.1 in
    subst (IsTaken 5 c) (ok_is (Send b.0) y b.2) ((refl, t.0), t.1)

lost_takes : (c : Cut) (y : TrailEvent) → IsBytes c.left → lost_at c ≡ Ok y → IsTaken 6 c y
unfolding lost_at
lost_takes c y bs e =
    let b = bind_ok (addressed_at c) (λ a. cond (is_one a.to) (Ok (Lost a)) (Err c.at)) y e in
    let t = addressed_filled.takes c b.0 bs b.1 in
    let g = guard_ended (is_one b.0.to) c.at (Lost b.0) y b.2 in
    subst (IsTaken 6 c) g.1 ((refl, (t.0, g.0)), t.1)

last_kind : (a b c d e f g h : Bool) → (a || b || c || d || e || f || g || h) ≡ true → a ≡ false → b ≡ false → c ≡ false → d ≡ false → e ≡ false → f ≡ false → g ≡ false → h ≡ true
last_kind true b c d e f g h one p q r s t u v = absurd cc
last_kind false true c d e f g h one p q r s t u v = absurd cc
last_kind false false true d e f g h one p q r s t u v = absurd cc
last_kind false false false true e f g h one p q r s t u v = absurd cc
last_kind false false false false true f g h one p q r s t u v = absurd cc
last_kind false false false false false true g h one p q r s t u v = absurd cc
last_kind false false false false false false true h one p q r s t u v = absurd cc
last_kind false false false false false false false h one p q r s t u v = one

here : (c : Cut) (y : TrailEvent) (k n : ℕ) → k ≡ n → IsTaken n c y → IsTaken k c y
here c y k n same taken = subst (λ (k : ℕ). IsTaken k c y) (sym same) taken

content_takes : (k : ℕ) → is_event_kind k ≡ true → (c : Cut) (y : TrailEvent) → IsBytes c.left → content_at k c ≡ Ok y → IsTaken k c y
unfolding content_at
content_takes k kind c y bs e =
    picked (eqb k 1) k 1 _ _ y refl e (λ same one. here c y k 1 same (subst (IsTaken 1 c) (ok_is (Happens (Arrive c.left)) y one) ((refl, tt), refl))) λ n1 e2.
    picked (eqb k 2) k 2 _ _ y refl e2 (λ same one. here c y k 2 same (alone_takes 2 (Happens Tick) refl tt refl c y one)) λ n2 e3.
    picked (eqb k 3) k 3 _ _ y refl e3 (λ same one. here c y k 3 same (alone_takes 3 (Happens Deliver) refl tt refl c y one)) λ n3 e4.
    picked (eqb k 4) k 4 _ _ y refl e4 (λ same one. here c y k 4 same (number_takes 4 (λ n. Happens (Firm n)) (λ n. refl) (λ n h. h) (λ n. refl) c y bs one)) λ n4 e5.
    picked (eqb k 5) k 5 _ _ y refl e5 (λ same one. here c y k 5 same (sent_takes c y bs one)) λ n5 e6.
    picked (eqb k 6) k 6 _ _ y refl e6 (λ same one. here c y k 6 same (lost_takes c y bs one)) λ n6 e7.
    picked (eqb k 7) k 7 _ _ y refl e7 (λ same one. here c y k 7 same (number_takes 7 Polls (λ n. refl) (λ n h. h) (λ n. refl) c y bs one)) λ n7 e8.
    here c y k 8 (eqb-true k 8 (last_kind (eqb k 1) (eqb k 2) (eqb k 3) (eqb k 4) (eqb k 5) (eqb k 6) (eqb k 7) (eqb k 8) kind n1 n2 n3 n4 n5 n6 n7))
    (alone_takes 8 End refl tt refl c y e8)

alone_again : (e : TrailEvent) (c : Cut) → c.left ≡ [] → alone_at e c ≡ Ok e
unfolding alone_at
alone_again e c none = ap (λ (l : List ℕ). cond (eqb (length l) 0) (Ok e) (Err c.at)) none

number_again : (of : ℕ → TrailEvent) (n : ℕ) (c : Cut) → n < 2 ^ 64 → c.left ≡ u64 n → (number_left c >>= λ n. Ok (of n)) ≡ Ok (of n)
number_again of n c small text = bind_is (number_left c) (λ n. Ok (of n)) n (number_filled.again c n small text)

content_again : (c : Cut) (e : TrailEvent) → FitsEvent e → c.left ≡ event_content e → content_at (event_kind e) c ≡ Ok e
unfolding content_at lost_at
content_again c (Happens (Arrive bytes)) h text = ap (λ (l : List ℕ). Ok (Happens (Arrive l))) text
content_again c (Happens Tick) h text = alone_again (Happens Tick) c text
content_again c (Happens Deliver) h text = alone_again (Happens Deliver) c text
content_again c (Happens (Firm n)) h text = number_again (λ n. Happens (Firm n)) n c h text
content_again c (Send a) h text = bind_is (addressed_at c) (λ a. Ok (Send a)) a (addressed_filled.again c a h text)
content_again c (Lost a) h text =
    bind_is (addressed_at c) (λ a. cond (is_one a.to) (Ok (Lost a)) (Err c.at)) a (addressed_filled.again c a h.0 text)
    ∙ ap (λ (b : Bool). cond b (Ok (Lost a)) (Err c.at)) h.1
content_again c (Polls n) h text = number_again Polls n c h text
content_again c End h text = alone_again End c text

kind_fits : (e : TrailEvent) → (event_kind e < 2 ^ 8) × (is_event_kind (event_kind e) ≡ true)
kind_fits (Happens (Arrive bytes)) = (omega arith, refl)
kind_fits (Happens Tick) = (omega arith, refl)
kind_fits (Happens Deliver) = (omega arith, refl)
kind_fits (Happens (Firm n)) = (omega arith, refl)
kind_fits (Send a) = (omega arith, refl)
kind_fits (Lost a) = (omega arith, refl)
kind_fits (Polls n) = (omega arith, refl)
kind_fits End = (omega arith, refl)

content_filled : (k : ℕ) → (k < 2 ^ 8) × (is_event_kind k ≡ true) → Filled (λ e. (Unit {0} × (event_kind e ≡ k)) × FitsEvent e) event_content (content_at k)
content_filled k h = record {
  takes = λ c y bs e. let t = content_takes k h.1 c y bs e in (((tt, t.0.0), t.0.1), t.1);
  again = λ c e fits text. subst (λ (k : ℕ). content_at k c ≡ Ok e) fits.0.1 (content_again c e fits.1 text);
}

pub event_filled : Filled FitsEvent event_text event_at
unfolding event_at event_text
event_filled =
    refill _ FitsEvent event_text event_at
    (then_filled event_kind (λ e. Unit {0}) (λ n. (n < 2 ^ 8) × (is_event_kind n ≡ true)) (to_be_bytes w8) event_kind_at _ _ _
    (ranged_law (λ n. n < 2 ^ 8) (to_be_bytes w8) (number_at w8) is_event_kind u8_law) content_filled)
    (λ e h. h.1.1) (λ e h. (tt, (kind_fits e, h)))

abbrev start : List ℕ → Cut
start bytes = record { at = 0; left = bytes }

pub decoded-is : (bytes : List ℕ) (e : TrailEvent) → IsBytes bytes → event_decoded bytes ≡ Ok e → FitsEvent e × (bytes ≡ event_text e)
decoded-is bytes e bs is = event_filled.takes (start bytes) e bs is

pub spelling-is : (e : TrailEvent) → FitsEvent e → event_decoded (event_text e) ≡ Ok e
spelling-is e fits = event_filled.again (start (event_text e)) e fits refl

pub is-found : (bytes : List ℕ) (r : Result TrailEvent ReadError) → IsBytes bytes → GivesAll r (event_decoded bytes) → IfOk r (λ e. FitsEvent e × (bytes ≡ event_text e))
is-found bytes (Ok e) bs given = decoded-is bytes e bs given
is-found bytes (Err e) bs given = tt

pub is-only : (bytes : List ℕ) (e : TrailEvent) → FitsEvent e → bytes ≡ event_text e → event_decoded bytes ≡ Ok e
is-only bytes e fits text = event_filled.again (start bytes) e fits text
