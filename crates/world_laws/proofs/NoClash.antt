-- Texts that a play has met are one where their digests are, those of batches and snapshots; and so are batches.
use Rattle.std.proofs.Common.{◌≡◌, ℕ, ◌++◌, ◌&&◌, ◌∙◌, Bool, true, false, not, cond, List, [], ◌∷◌, refl, sym, ap, subst, inl, inr, ◌⊎◌, map, append-nil, Option, Some, None}
use Rattle.std.specs.Prelude.{option_to_list}
use Rattle.std.proofs.lemmas.Grind.{flat_map-append}
use Rattle.std.proofs.lemmas.List.{map-append}
use Rattle.std.specs.List.{list_any}
use Rattle.smart_base.specs.Lists.{Each, same_bytes}
use Rattle.smart_statements.specs.Batches.{Batch, batch_text, FitsBatch}
use Rattle.smart_messages.specs.declared.message.Message.TheVariants.{Propose}
use Rattle.smart_messages.specs.declared.message.Message.TheVariants as changes
use Rattle.smart_statements.specs.SignedLists.{FitsOptional}
use Rattle.replica_rules.specs.Seals.{digest_of}
use Rattle.smart_keys.specs.Keys.{digest}
use Rattle.vote_book.specs.Books.{Among}
use Rattle.world_rules.specs.Premises.{batches, batches_met, texts_in, met, clash, collides, texts_met, newly_met, marked_with, all_marked}
use Rattle.world_rules.specs.declared.message.Sent.{Sent}
use Rattle.agreement_laws.specs.Lists.{Exact}
use Rattle.agreement_laws.proofs.Lists.{each_among, among_left, among_right, among_either, not_true}
use Rattle.world_rules.specs.declared.message.Content.{Content}
use Rattle.world_rules.specs.declared.message.Content.TheVariants as contents
use Rattle.world_laws.proofs.Keeps.{IsRead}
use Rattle.smart_statements.proofs.Batches.{batch_is}
use Rattle.vote_book.proofs.Tested.{same_bytes_is, same_bytes_self}
use Rattle.std.proofs.lemmas.Bool.{or_parts}
use Rattle.smart_messages.specs.Messages.{batch_in}

-- a batch is among batches
abbrev pub HasBatch : List Batch → Batch → Type 0
HasBatch [] batch = ⊥
HasBatch (b ∷ bs) batch = (b ≡ batch) ⊎ HasBatch bs batch

-- a batch was in a content that was sent
abbrev pub IsMet : List Sent → Batch → Type 0
IsMet sent batch = HasBatch (batches_met sent) batch

-- among more batches

pub has-left : (xs ys : List Batch) (b : Batch) → HasBatch xs b → HasBatch (xs ++ ys) b
has-left [] ys b has = absurd has
has-left (x ∷ xs) ys b has = elim has [ inl here ↦ inl here | inr later ↦ inr (has-left xs ys b later) ]

pub has-right : (xs ys : List Batch) (b : Batch) → HasBatch ys b → HasBatch (xs ++ ys) b
has-right [] ys b has = has
has-right (x ∷ xs) ys b has = inr (has-right xs ys b has)

has-either : (xs ys : List Batch) (b : Batch) → HasBatch (xs ++ ys) b → HasBatch xs b ⊎ HasBatch ys b
has-either [] ys b has = inr has
has-either (x ∷ xs) ys b has =
    elim has [ inl here ↦ inl (inl here) | inr later ↦ elim (has-either xs ys b later) [ inl front ↦ inl (inr front) | inr back ↦ inr back ] ]

-- one more message

met-end : (sent : List Sent) (s : Sent) → batches_met (sent ++ s ∷ []) ≡ batches_met sent ++ batches s.content
met-end sent s = flat_map-append (λ (t : Sent). batches t.content) sent (s ∷ []) ∙ ap (λ bs. batches_met sent ++ bs) (append-nil (batches s.content))

-- what was met stays met
pub met-grows : (sent : List Sent) (s : Sent) (batch : Batch) → IsMet sent batch → IsMet (sent ++ s ∷ []) batch
met-grows sent s batch is = rw (met-end sent s) (has-left (batches_met sent) (batches s.content) batch is)

-- texts

-- a text was met: in a message that was sent, or as a snapshot that a node marked
abbrev pub IsTextMet : List Sent → List (List ℕ) → List ℕ → Type 0
IsTextMet sent marked text = Among text (texts_met sent marked)

-- the text of a batch is among the texts of batches where the batch is among these
has-text : (bs : List Batch) (b : Batch) → HasBatch bs b → Among (batch_text b) (map batch_text bs)
has-text [] b has = absurd has
has-text (x ∷ xs) b has = elim has [ inl here ↦ inl (ap batch_text (sym here)) | inr later ↦ inr (has-text xs b later) ]

-- of a batch that was met the text was
pub text-met : (sent : List Sent) (marked : List (List ℕ)) (batch : Batch) → IsMet sent batch → IsTextMet sent marked (batch_text batch)
text-met sent marked batch is = among_left (batch_text batch) (met sent) marked (has-text (batches_met sent) batch is)

all-end : (sent : List Sent) (s : Sent) → met (sent ++ s ∷ []) ≡ met sent ++ texts_in s.content
all-end sent s = ap (λ (bs : List Batch). map batch_text bs) (met-end sent s) ∙ map-append batch_text (batches_met sent) (batches s.content)

-- what was met stays so where one more message was sent
pub text-grows : (sent : List Sent) (marked : List (List ℕ)) (s : Sent) (text : List ℕ) → IsTextMet sent marked text → IsTextMet (sent ++ s ∷ []) marked text
text-grows sent marked s text is =
    subst (λ (ts : List (List ℕ)). Among text (ts ++ marked)) (sym (all-end sent s))
    (elim (among_either text (met sent) marked is) [
      | inl front ↦ among_left text (met sent ++ texts_in s.content) marked (among_left text (met sent) (texts_in s.content) front)
      | inr back ↦ among_right text (met sent ++ texts_in s.content) marked back
    ])

-- where one more message was sent, a text was met before, or the message brings it
met-parts : (sent : List Sent) (marked : List (List ℕ)) (s : Sent) (text : List ℕ) → IsTextMet (sent ++ s ∷ []) marked text → IsTextMet sent marked text ⊎ Among text (texts_in s.content)
met-parts sent marked s text is =
    let all : Among text ((met sent ++ texts_in s.content) ++ marked) = subst (λ (ts : List (List ℕ)). Among text (ts ++ marked)) (all-end sent s) is in
    elim (among_either text (met sent ++ texts_in s.content) marked all) [
      | inl front ↦ elim (among_either text (met sent) (texts_in s.content) front) [ inl old ↦ inl (among_left text (met sent) marked old) | inr new ↦ inr new ]
      | inr snapshot ↦ inl (among_right text (met sent) marked snapshot)
    ]

-- where one more snapshot was met, a text was met before, or it is the snapshot
snapshot-parts : (sent : List Sent) (marked : List (List ℕ)) (snapshot text : List ℕ) → IsTextMet sent (marked ++ snapshot ∷ []) text → IsTextMet sent marked text ⊎ (text ≡ snapshot)
snapshot-parts sent marked snapshot text is =
    elim (among_either text (met sent) (marked ++ snapshot ∷ []) is) [
      | inl front ↦ inl (among_left text (met sent) marked front)
      | inr back ↦ elim (among_either text marked (snapshot ∷ []) back) [
        | inl old ↦ inl (among_right text (met sent) marked old)
        | inr last ↦ elim last [ inl own ↦ inr own | inr none ↦ absurd none ]
      ]
    ]

-- digests

-- texts that were met and have one digest are one
pub record TextsExact (sent : List Sent) (marked : List (List ℕ)) : Type 0 where
  pub same : (a b : List ℕ) → IsTextMet sent marked a → IsTextMet sent marked b → digest a ≡ digest b → a ≡ b

-- texts that do not clash
no_clash : (a b : List ℕ) → clash a b ≡ false → digest a ≡ digest b → a ≡ b
no_clash a b none same =
    same_bytes_is a b
    (second (same_bytes (digest a) (digest b)) (same_bytes a b) (subst (λ (d : List ℕ). same_bytes (digest a) d ≡ true) same (same_bytes_self (digest a))) none)
  where
    second : (x y : Bool) → x ≡ true → (x && not y) ≡ false → y ≡ true
    second true true is none = refl
    second true false is none = absurd (cc)
    second false y is none = absurd (cc)

-- what none of several texts passes
none_passes : (p : List ℕ → Bool) (ts : List (List ℕ)) (t : List ℕ) → list_any p ts ≡ false → Among t ts → p t ≡ false
none_passes p [] t none there = absurd there
none_passes p (x ∷ xs) t none there =
    let parts = or_parts (p x) (list_any p xs) none in
    elim there [ inl here ↦ subst (λ (y : List ℕ). p y ≡ false) (sym here) parts.0 | inr later ↦ none_passes p xs t parts.1 later ]

-- a batch that may be there has one text at most
one_there : (found : Option Batch) (a b : List ℕ) → Among a (map batch_text (option_to_list found)) → Among b (map batch_text (option_to_list found)) → a ≡ b
one_there None a b ina inb = absurd ina
one_there (Some x) a b ina inb = elim ina [ inl here ↦ elim inb [ inl there ↦ here ∙ sym there | inr none ↦ absurd none ] | inr none ↦ absurd none ]

-- a content brings one text at most
one_text : (x : Content) (a b : List ℕ) → Among a (texts_in x) → Among b (texts_in x) → a ≡ b
one_text (contents.Message m) a b ina inb = one_there (batch_in m) a b ina inb
one_text (contents.Raw bytes) a b ina inb = absurd ina

-- a text of several that do not collide, and one met before
old_new : (before texts : List (List ℕ)) (a b : List ℕ) → collides before texts ≡ false → Among a before → Among b texts → digest b ≡ digest a → b ≡ a
unfolding collides
old_new before texts a b free old new same =
    no_clash b a (none_passes (clash b) before a (none_passes (λ text. list_any (clash text) before) texts b free new) old) same

-- so texts stay exact where something is sent that does not collide
pub texts-end : (sent : List Sent) (marked : List (List ℕ)) (s : Sent) → collides (texts_met sent marked) (texts_in s.content) ≡ false → TextsExact sent marked → TextsExact (sent ++ s ∷ []) marked
texts-end sent marked s free exact =
    record {
      same = λ a b ma mb same.
          elim (met-parts sent marked s a ma) [
            | inl olda ↦ elim (met-parts sent marked s b mb) [
              | inl oldb ↦ exact.same a b olda oldb same
              | inr newb ↦ sym (old_new (texts_met sent marked) (texts_in s.content) a b free olda newb (sym same))
            ]
            | inr newa ↦ elim (met-parts sent marked s b mb) [
              | inl oldb ↦ old_new (texts_met sent marked) (texts_in s.content) b a free oldb newa same
              | inr newb ↦ one_text s.content a b newa newb
            ]
          ];
    }

-- a text that is new has another digest than those that were met before it
new_apart : (before : List (List ℕ)) (a b : List ℕ) → newly_met before b ≡ true → Among a before → digest b ≡ digest a → ⊥
unfolding newly_met
new_apart before a b new old same =
    let none = not_true (list_any (λ other. same_bytes (digest b) (digest other)) before) new in
    let differs : same_bytes (digest b) (digest a) ≡ false = none_passes (λ other. same_bytes (digest b) (digest other)) before a none old in
    let equal : same_bytes (digest b) (digest a) ≡ true = subst (λ (d : List ℕ). same_bytes (digest b) d ≡ true) same (same_bytes_self (digest b)) in
    cc

marked-by : (sent : List Sent) (marked : List (List ℕ)) (snapshot : List ℕ) (new : Bool) → newly_met (texts_met sent marked) snapshot ≡ new → TextsExact sent marked
    → TextsExact sent (cond new (marked ++ snapshot ∷ []) marked)
marked-by sent marked snapshot false known exact = exact
marked-by sent marked snapshot true new exact =
    record {
      same = λ a b ma mb same.
          elim (snapshot-parts sent marked snapshot a ma) [
            | inl olda ↦ elim (snapshot-parts sent marked snapshot b mb) [
              | inl oldb ↦ exact.same a b olda oldb same
              | inr isb ↦ absurd (new_apart (texts_met sent marked) a snapshot new olda (sym (same ∙ ap (λ (x : List ℕ). digest x) isb)))
            ]
            | inr isa ↦ elim (snapshot-parts sent marked snapshot b mb) [
              | inl oldb ↦ absurd (new_apart (texts_met sent marked) b snapshot new oldb (sym (ap (λ (x : List ℕ). digest x) isa) ∙ same))
              | inr isb ↦ isa ∙ sym isb
            ]
          ];
    }

-- and where snapshots are met
pub texts-marked : (sent : List Sent) (marked snapshots : List (List ℕ)) → TextsExact sent marked → TextsExact sent (all_marked sent marked snapshots)
texts-marked sent marked [] exact = exact
texts-marked sent marked (s ∷ ss) exact = texts-marked sent (marked_with sent marked s) ss (marked-by sent marked s (newly_met (texts_met sent marked) s) refl exact)

-- batches of one text

-- a batch that may be there and has a spelling
there_fits : (found : Option Batch) (batch : Batch) → FitsOptional FitsBatch found → HasBatch (option_to_list found) batch → FitsBatch batch
there_fits None batch fits has = absurd has
there_fits (Some x) batch fits has = elim has [ inl here ↦ subst (λ (b : Batch). FitsBatch b) here fits | inr none ↦ absurd none ]

-- what was met in contents that are read has a spelling
met-fits : (sent : List Sent) (batch : Batch) → Each (λ s. IsRead s.content) sent → IsMet sent batch → FitsBatch batch
met-fits [] batch each is = absurd is
met-fits (s ∷ sent) batch each is =
    elim (has-either (batches s.content) (batches_met sent) batch is) [ inl here ↦ in_fits s.content each.0 here | inr later ↦ met-fits sent batch each.1 later ]
  where
    in_fits : (x : Content) → IsRead x → HasBatch (batches x) batch → FitsBatch batch
    in_fits (contents.Message (Propose p)) fits has = elim has [ inl here ↦ subst (λ (b : Batch). FitsBatch b) here fits.1 | inr none ↦ absurd none ]
    in_fits (contents.Message (changes.StopData r)) fits has = there_fits r.batch batch fits.1 has
    in_fits (contents.Message (changes.Decision d)) fits has = elim has [ inl here ↦ subst (λ (b : Batch). FitsBatch b) here fits.batch_fits | inr none ↦ absurd none ]
    in_fits (contents.Message _) fits has = absurd has
    in_fits (contents.Raw bytes) unread has = absurd has

-- the digest of a batch is that of its text
digest-text : (a b : Batch) → digest_of a ≡ digest_of b → digest (batch_text a) ≡ digest (batch_text b)
unfolding digest_of
digest-text a b same = same

-- so batches that were met are one where their digests are
pub met-exact : (sent : List Sent) (marked : List (List ℕ)) (xs ys : List Batch) → Each (λ s. IsRead s.content) sent → TextsExact sent marked → Each (IsMet sent) xs → Each (IsMet sent) ys
    → Exact digest_of xs ys
met-exact sent marked xs ys each exact left right =
    record {
      one = λ a b ina inb same.
          let ma = each_among (IsMet sent) xs a left ina in
          let mb = each_among (IsMet sent) ys b right inb in
          batch_is a b (met-fits sent a each ma) (met-fits sent b each mb)
          (exact.same (batch_text a) (batch_text b) (text-met sent marked a ma) (text-met sent marked b mb) (digest-text a b same));
    }
