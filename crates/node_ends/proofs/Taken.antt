-- What the turns of an intake make of the bytes of its input.
use Rattle.std.proofs.Common.{◌≡◌, ◌+◌, ◌-◌, ◌^◌, ℕ, min, Bool, true, false, List, [], ◌∷◌, ◌++◌, is_some, Option, None, Some, refl, sym, ap, ◌∙◌, subst, arith, append_assoc, append-nil, length-append, true≢false, ◌⊎◌, inl, inr}
use Rattle.std.specs.Option.{option_to_list}
use Rattle.std.specs.Io.KnownBytes.{Consumes, Keeps}
use Rattle.std.proofs.KnownBytes.{Consumes-nil, Consumes-trans, Consumes-kept}
use Rattle.frame_stream.specs.Frames.{Stream, HasFed, Takes, TakesUnless, too_long}
use Rattle.node_ends.specs.Intakes.{filled_by, filled, IsTakenIn, HasTakenIn, HasFedOn, Reads, is_cut, is_early}
use Rattle.node_ends.specs.declared.intake.InputEnd.{InputEnd}
use Rattle.node_ends.specs.declared.intake.InputEnd.TheVariants.{Whole, Form, Failed, NoMemory}
use Rattle.node_ends.specs.declared.intake.Intake.{Intake}
use Rattle.node_ends.specs.declared.intake.Taking.{Taking}
use Rattle.node_ends.specs.declared.intake.Taking.TheVariants.{Done, Full, Ended}

filled-push : (given : List (List ℕ)) (f : List ℕ) → filled (given ++ f ∷ []) ≡ filled given ++ filled_by f
filled-push [] f = append-nil (filled_by f)
filled-push (g ∷ given) f = ap (λ (l : List (List ℕ)). filled_by g ++ l) (filled-push given f) ∙ sym (append_assoc (filled_by g) (filled given) (filled_by f))

-- a message that waited went onto the link, or waits on
pub offered : (bytes : List ℕ) (stream : Stream) (put put' : List (List ℕ)) (p : List ℕ) (waiting' : Option (List ℕ)) (count : ℕ) (is_long : Bool)
    → put' ++ option_to_list waiting' ≡ put ++ p ∷ [] → IsTakenIn bytes stream put (Some p) count is_long → IsTakenIn bytes stream put' waiting' count is_long
offered bytes stream put put' p waiting' count is_long same t = record { given = t.given; fed = t.fed; put_is = same ∙ t.put_is; count_is = t.count_is; long = t.long }

-- a frame was given
pub passed : (bytes : List ℕ) (old new : Stream) (f : List ℕ) (put put' : List (List ℕ)) (waiting' : Option (List ℕ)) (count count' : ℕ) (is_long : Bool)
    → ((given : List (List ℕ)) → HasFed bytes given old → HasFed bytes (given ++ f ∷ []) new) → new.rest ≡ old.rest
    → put' ++ option_to_list waiting' ≡ put ++ filled_by f → count' ≡ min (count + 1) (2 ^ 64 - 1)
    → IsTakenIn bytes old put None count is_long → IsTakenIn bytes new put' waiting' count' is_long
passed bytes old new f put put' waiting' count count' is_long feeds rest same more t =
    let was : put ≡ filled t.given = sym (append-nil put) ∙ t.put_is in record {
      given = t.given ++ f ∷ [];
      fed = feeds t.given t.fed;
      put_is = same ∙ ap (λ (l : List (List ℕ)). l ++ filled_by f) was ∙ sym (filled-push t.given f);
      count_is = omega (arith, more, t.count_is, length-append t.given (f ∷ []));
      long = t.long ∙ ap (λ (r : List ℕ). is_some (too_long r)) (sym rest);
    }

-- no length above the limit
pub not_long : (o : Option ℕ) → false ≡ is_some o → o ≡ None
not_long None is = refl
not_long (Some n) is = absurd (true≢false (sym is))

-- a stream that had no frame to give
pub given-none : (bytes : List ℕ) (old new : Stream) (put : List (List ℕ)) (waiting : Option (List ℕ)) (count : ℕ) (is_long : Bool)
    → ((given : List (List ℕ)) → HasFed bytes given old → HasFed bytes (given ++ []) new) → new.rest ≡ old.rest
    → IsTakenIn bytes old put waiting count is_long → IsTakenIn bytes new put waiting count is_long
given-none bytes old new put waiting count is_long feeds rest t = record {
  given = t.given;
  fed = subst (λ (l : List (List ℕ)). HasFed bytes l new) (append-nil t.given) (feeds t.given t.fed);
  put_is = t.put_is;
  count_is = t.count_is;
  long = t.long ∙ ap (λ (r : List ℕ). is_some (too_long r)) (sym rest);
}

-- a piece was taken
pub fed-on : ((bytes piece : List ℕ) (given : List (List ℕ)) (old new : Stream) → HasFed bytes given old → Takes old piece new → HasFed (bytes ++ piece) given new)
    → (bytes piece : List ℕ) (old new : Stream) (put : List (List ℕ)) (waiting : Option (List ℕ)) (count : ℕ) (was is_long : Bool)
    → was ≡ false → TakesUnless (too_long old.rest) old piece new → is_long ≡ is_some (too_long new.rest)
    → IsTakenIn bytes old put waiting count was
    → (false ≡ false → IsTakenIn (bytes ++ piece) new put waiting count is_long) × (false ≡ true → IsTakenIn bytes new put waiting count is_long)
fed-on law bytes piece old new put waiting count was is_long short takes long t =
    let none : too_long old.rest ≡ None = not_long (too_long old.rest) (sym short ∙ t.long) in
    let took : Takes old piece new = subst (λ (o : Option ℕ). TakesUnless o old piece new) none takes in (
      (λ _. record { given = t.given; fed = law bytes piece t.given old new t.fed took; put_is = t.put_is; count_is = t.count_is; long = long }),
      (λ no. absurd (true≢false (sym no))),
    )

pub reads-none : (left : Option (List ℕ)) (cut : Bool) (old new : Intake) → ((bytes : List ℕ) → HasTakenIn bytes old → HasTakenIn bytes new) → Reads left left cut old new
reads-none left cut old new taken = record {
  more = [];
  lost = [];
  consumed = Consumes-nil left;
  taken = λ bytes t. subst (λ (l : List ℕ). HasTakenIn l new) (sym (append-nil bytes)) (taken bytes t);
  none = λ _. refl;
}

-- a turn that is no last one read nothing
pub reads-went : (left : Option (List ℕ)) (result : Taking) (old new : Intake) → (result ≡ Done) ⊎ (result ≡ Full) → ((bytes : List ℕ) → HasTakenIn bytes old → HasTakenIn bytes new)
    → Reads left left (is_cut result) old new
reads-went left result old new goes taken = reads-none left (is_cut result) old new taken

pub reads-end : (a b : Option (List ℕ)) (end : InputEnd) (i j : Intake) → Reads a b (is_cut (Ended end)) i j → Reads a b (is_early (Some end)) i j
reads-end a b Whole i j p = p
reads-end a b (Form n) i j p = p
reads-end a b Failed i j p = p
reads-end a b NoMemory i j p = p

pub reads-kept : (a b : Option (List ℕ)) (cut : Bool) (i : Intake) → Keeps a b → Reads a b cut i i
reads-kept a b cut i keeps = record {
  more = [];
  lost = [];
  consumed = Consumes-kept a a b [] (Consumes-nil a) keeps;
  taken = λ bytes t. subst (λ (l : List ℕ). HasTakenIn l i) (sym (append-nil bytes)) t;
  none = λ _. refl;
}

pub reads-empty : (a b : Option (List ℕ)) (cut : Bool) (i : Intake) → Consumes a b [] → Reads a b cut i i
reads-empty a b cut i none = record {
  more = [];
  lost = [];
  consumed = none;
  taken = λ bytes t. subst (λ (l : List ℕ). HasTakenIn l i) (sym (append-nil bytes)) t;
  none = λ _. refl;
}

-- a piece that was read was taken in, or is lost
pub reads-fed : (a b : Option (List ℕ)) (result : Taking) (i j : Intake) (piece : List ℕ) → Consumes a b piece → (result ≡ Done) ⊎ (result ≡ Ended NoMemory)
    → i.is_long ≡ false → HasFedOn piece result i j → Reads a b (is_cut result) i j
reads-fed a b result i j piece consumed (inl is) short fed =
    let on : HasFedOn piece Done i j = subst (λ (r : Taking). HasFedOn piece r i j) is fed in
    subst (λ (r : Taking). Reads a b (is_cut r) i j) (sym is)
    (record {
      more = piece;
      lost = [];
      consumed = subst (Consumes a b) (sym (append-nil piece)) consumed;
      taken = λ bytes t. (on bytes short t).0 refl;
      none = λ _. refl;
    })
reads-fed a b result i j piece consumed (inr is) short fed =
    let on : HasFedOn piece (Ended NoMemory) i j = subst (λ (r : Taking). HasFedOn piece r i j) is fed in
    subst (λ (r : Taking). Reads a b (is_cut r) i j) (sym is)
    (record {
      more = [];
      lost = piece;
      consumed = consumed;
      taken = λ bytes t. subst (λ (l : List ℕ). HasTakenIn l j) (sym (append-nil bytes)) ((on bytes short t).1 refl);
      none = λ no. absurd (true≢false no);
    })

pub reads-trans : (a b c : Option (List ℕ)) (cut : Bool) (i j k : Intake) → Reads a b false i j → Reads b c cut j k → Reads a c cut i k
reads-trans a b c cut i j k p q = record {
  more = p.more ++ q.more;
  lost = q.lost;
  consumed =
      (let first : Consumes a b p.more = subst (Consumes a b) (ap (λ (l : List ℕ). p.more ++ l) (p.none refl) ∙ append-nil p.more) p.consumed in
      subst (Consumes a c) (sym (append_assoc p.more q.more q.lost)) (Consumes-trans a b c p.more (q.more ++ q.lost) first q.consumed));
  taken = λ bytes t. subst (λ (l : List ℕ). HasTakenIn l k) (append_assoc bytes p.more q.more) (q.taken (bytes ++ p.more) (p.taken bytes t));
  none = q.none;
}
