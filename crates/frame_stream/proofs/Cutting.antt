-- Frames that are cut from the front of bytes.
use Rattle.std.proofs.Common.{◌≡◌, ℕ, zero, suc, ◌≤◌, ◌<◌, ◌+◌, ◌^◌, List, [], ◌∷◌, ◌++◌, length, take, drop, min, refl, sym, ap, ◌∙◌, append_assoc, arith, Option, Some, None, Result, Ok, Err, OnErr, ◌⊎◌, inl, inr, subst}
use Rattle.std.specs.Int.{w32, from_be_bytes, to_be_bytes}
use Rattle.std.specs.Io.KnownBytes.{Appends}
use Rattle.std.specs.List.{flat_map}
use Rattle.std.proofs.lemmas.List.{take_at, drop_at, take-append-drop, take-append-le, length-append, length-take, get_or-take, take_all}
use Rattle.std.proofs.lemmas.Bool.{cases_lt}
use Rattle.std.proofs.lemmas.List.Concat.{flat_map-cons}
use Rattle.std.proofs.lemmas.Nat.{be_bytes_4}
use Rattle.byteorder.specs.Numbers.{big_number-reads_back}
use Rattle.smart_base.specs.Bytes.{bytes_take}
use Rattle.smart_base.specs.Cuts.{IsBytes}
use Rattle.smart_base.specs.Lists.{Each}
use Rattle.smart_base.specs.Spelling.{u32}
use Rattle.smart_base.specs.declared.limits.TheConstants.{MESSAGE_BYTES}
use Rattle.smart_io.proofs.Pieces.{appends_more}
use Rattle.frame_stream.specs.Frames.{framed, IsShort, IsEnd, IsCut, Stream, HasFed, Takes, length_at, HasFirst}

-- frames one after the other, and more of them
pub framed-append : (f g : List (List ℕ)) → flat_map framed (f ++ g) ≡ flat_map framed f ++ flat_map framed g
framed-append [] g = refl
framed-append (p ∷ f) g =
    flat_map-cons {X = List ℕ} {A = ℕ} framed p (f ++ g) ∙ ap (λ (x : List ℕ). framed p ++ x) (framed-append f g)
    ∙ sym (append_assoc (framed p) (flat_map framed f) (flat_map framed g))
    ∙ ap (λ (x : List ℕ). x ++ flat_map framed g) (sym (flat_map-cons {X = List ℕ} {A = ℕ} framed p f))

pub each-append : (f g : List (List ℕ)) → Each IsShort f → Each IsShort g → Each IsShort (f ++ g)
each-append [] g a b = b
each-append (p ∷ f) g a b = (a.0, each-append f g a.1 b)

one-framed : (p : List ℕ) → flat_map framed (p ∷ []) ≡ framed p
one-framed p = flat_map-cons {X = List ℕ} {A = ℕ} framed p [] ∙ append-nil' (framed p)
  where
    append-nil' : (x : List ℕ) → x ++ [] ≡ x
    append-nil' [] = refl
    append-nil' (a ∷ x) = ap (λ (y : List ℕ). a ∷ y) (append-nil' x)

-- one more frame
pub cut-more : (bytes : List ℕ) (more : List (List ℕ)) (left payload after : List ℕ) → bytes ≡ flat_map framed more ++ left → left ≡ framed payload ++ after
    → bytes ≡ flat_map framed (more ++ payload ∷ []) ++ after
cut-more bytes more left payload after e f =
    e ∙ ap (λ (x : List ℕ). flat_map framed more ++ x) f ∙ sym (append_assoc (flat_map framed more) (framed payload) after)
    ∙ ap (λ (x : List ℕ). x ++ after) (ap (λ (x : List ℕ). flat_map framed more ++ x) (sym (one-framed payload)) ∙ sym (framed-append more (payload ∷ [])))

-- the length that stands before a frame's payload
pub length-framed : (payload after : List ℕ) → IsShort payload → length_at (framed payload ++ after) ≡ length payload
length-framed payload after short = big_number-reads_back 4 (length payload) (payload ++ after) (omega (arith, short))

-- the first four bytes spell the length that they are
head-spelled : (bytes : List ℕ) → IsBytes bytes → 4 ≤ length bytes → u32 (length_at bytes) ≡ take 4 bytes
head-spelled bytes are long =
    be_bytes_4 (take 4 bytes) (length_at bytes) (omega (arith, long, length-take 4 bytes)) (bytes_take 4 bytes are).below
    (omega (arith, get_or-take 4 bytes 0 0 (omega arith), get_or-take 4 bytes 1 0 (omega arith), get_or-take 4 bytes 2 0 (omega arith), get_or-take 4 bytes 3 0 (omega arith)))

-- the frame that begins bytes, in its parts
pub frame_at : (bytes head payload after frame : List ℕ) (n : ℕ) → IsBytes bytes → HasFirst bytes (Some n) → bytes ≡ frame ++ after → length frame ≡ 4 + n
    → frame ≡ head ++ payload → length head ≡ 4 → bytes ≡ framed payload ++ after
frame_at bytes head payload after frame n are first whole long parts four =
    let all : bytes ≡ head ++ (payload ++ after) = whole ∙ ap (λ (x : List ℕ). x ++ after) parts ∙ append_assoc head payload after in
    let front : take 4 bytes ≡ head = ap (take 4) all ∙ take_at head (payload ++ after) 4 four in
    let spelled : u32 (length_at bytes) ≡ head = head-spelled bytes are (omega (arith, first.1.1)) ∙ front in
    let size : length_at bytes ≡ length payload = omega (arith, first.0, long, ap length parts, length-append head payload, four) in
    all ∙ ap (λ (x : List ℕ). x ++ (payload ++ after)) (sym spelled ∙ ap u32 size) ∙ sym (append_assoc (u32 (length payload)) payload after)

-- two texts that go on after parts of one length
parts-same : (p q x y : List ℕ) → length p ≡ length q → p ++ x ≡ q ++ y → (p ≡ q) × (x ≡ y)
parts-same p q x y len e = (
  sym (take_at p x (length p) refl) ∙ ap (take (length p)) e ∙ take_at q y (length p) (sym len),
  sym (drop_at p x (length p) refl) ∙ ap (drop (length p)) e ∙ drop_at q y (length p) (sym len),
)

frames-same : (p q x y : List ℕ) → IsShort p → IsShort q → framed p ++ x ≡ framed q ++ y → (p ≡ q) × (x ≡ y)
frames-same p q x y short other e =
    let len : length p ≡ length q = sym (length-framed p x short) ∙ ap length_at e ∙ length-framed q y other in
    parts-same p q x y len (ap (drop 4) e)

-- what begins with a frame is no end
not-end : {A : Type 0} (p x s : List ℕ) → IsShort p → IsEnd s → framed p ++ x ≡ s → A
not-end p x s short end e =
    let len = sym (ap length e) ∙ length-append (framed p) x in
    let number : length_at s ≡ length p = ap length_at (sym e) ∙ length-framed p x short in
    absurd (omega (arith, len, number, end.few (omega (arith, len)) (omega (arith, number, short))))

first-of : (p : List ℕ) (f : List (List ℕ)) (r : List ℕ) → flat_map framed (p ∷ f) ++ r ≡ framed p ++ (flat_map framed f ++ r)
first-of p f r = ap (λ (x : List ℕ). x ++ r) (flat_map-cons {X = List ℕ} {A = ℕ} framed p f) ∙ append_assoc (framed p) (flat_map framed f) r

one : (f g : List (List ℕ)) (r s : List ℕ) → flat_map framed f ++ r ≡ flat_map framed g ++ s → Each IsShort f → Each IsShort g → IsEnd r → IsEnd s → (f ≡ g) × (r ≡ s)
one [] [] r s e short other end last = (refl, e)
one [] (q ∷ g) r s e short other end last = not-end q (flat_map framed g ++ s) r other.0 end (sym (first-of q g s) ∙ sym e)
one (p ∷ f) [] r s e short other end last = not-end p (flat_map framed f ++ r) s short.0 last (sym (first-of p f r) ∙ e)
one (p ∷ f) (q ∷ g) r s e short other end last =
    let both = frames-same p q (flat_map framed f ++ r) (flat_map framed g ++ s) short.0 other.0 (sym (first-of p f r) ∙ e ∙ first-of q g s) in
    let rest = one f g r s both.1 short.1 other.1 end last in
    (rw (both.0, rest.0) refl, rest.1)

-- bytes have one cut
pub one-cut : (bytes : List ℕ) (f g : List (List ℕ)) (r s : List ℕ) → IsCut bytes f r → IsCut bytes g s → (f ≡ g) × (r ≡ s)
one-cut bytes f g r s a b = one f g r s (sym a.is ∙ b.is) a.short b.short a.end b.end

-- the frames of a piece go on where those of the bytes before it end
pub in-pieces : (bytes piece : List ℕ) (given : List (List ℕ)) (old new : Stream) → HasFed bytes given old → Takes old piece new → HasFed (bytes ++ piece) given new
in-pieces bytes piece given old new fed takes =
    let frames : given ++ new.ready ≡ (given ++ old.ready) ++ takes.more = ap (λ (x : List (List ℕ)). given ++ x) takes.ready ∙ sym (append_assoc given old.ready takes.more) in
    let joined : bytes ++ piece ≡ flat_map framed ((given ++ old.ready) ++ takes.more) ++ new.rest =
    ap (λ (x : List ℕ). x ++ piece) fed.cut.is ∙ append_assoc (flat_map framed (given ++ old.ready)) old.rest piece
    ∙ ap (λ (x : List ℕ). flat_map framed (given ++ old.ready) ++ x) takes.cut.is
    ∙ sym (append_assoc (flat_map framed (given ++ old.ready)) (flat_map framed takes.more) new.rest)
    ∙ ap (λ (x : List ℕ). x ++ new.rest) (sym (framed-append (given ++ old.ready) takes.more)) in
    record {
      cut = rw frames (record { is = joined; short = each-append (given ++ old.ready) takes.more fed.cut.short takes.cut.short; end = takes.cut.end });
    }

-- a part of the head is a part of the frame
pub head-part : (a b : Option (List ℕ)) (head payload : List ℕ) → head ≡ u32 (length payload) → ((count : ℕ) × Appends a b (take count head))
    → ((count : ℕ) × Appends a b (take count (framed payload)))
head-part a b head payload is (count, wrote) = by-cases (cases_lt count 5)
  where
    four : length head ≡ 4
    four = ap length is

    by-cases : (count < 5) ⊎ (5 ≤ count) → ((n : ℕ) × Appends a b (take n (framed payload)))
    by-cases (inl small) =
        (count, subst (λ (x : List ℕ). Appends a b x) (sym (take-append-le count head payload (omega (arith, small, four))) ∙ ap (λ (x : List ℕ). take count (x ++ payload)) is) wrote)
    by-cases (inr great) =
        (4, subst (λ (x : List ℕ). Appends a b x) (take_all count head (omega (arith, great, four)) ∙ is ∙ sym (take_at (u32 (length payload)) payload 4 refl)) wrote)

-- the head and a part of the payload are a part of the frame
pub body-part : (a b c : Option (List ℕ)) (head payload : List ℕ) → head ≡ u32 (length payload) → Appends a b head
    → ((count : ℕ) × Appends b c (take count payload)) → ((count : ℕ) × Appends a c (take count (framed payload)))
body-part a b c head payload is first (count, wrote) =
    (4 + count, appends_more a b c (framed payload) 4 count (subst (λ (x : List ℕ). Appends a b x) (is ∙ sym (take_at (u32 (length payload)) payload 4 refl)) first) wrote)

-- what an answer gives, given on
pub given-on : {A E P Q : Type 0} (r : Result A E) → (P → Q) → OnErr r P → OnErr r Q
given-on (Ok x) f p = tt
given-on (Err e) f p = f p

-- what holds, holds of a refusal
pub of-refusal : {A E P : Type 0} (r : Result A E) → P → OnErr r P
of-refusal (Ok x) p = tt
of-refusal (Err e) p = p
