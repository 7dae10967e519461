-- A pool's requests stay sound.
use Rattle.std.proofs.Common.{◌≡◌, ℕ, ◌+◌, ◌≤◌, ◌==◌, Bool, true, false, not, List, [], ◌∷◌, ◌++◌, length, refl, cond, arith, nat_lt, nat_le}
use Rattle.std.proofs.lemmas.Bool.{ltb-false}
use Rattle.std.proofs.lemmas.List.{length-append}
use Rattle.std.specs.Int.{w16, w32, to_be_bytes}
use Rattle.smart_base.specs.Lists.{Each}
use Rattle.smart_base.specs.Spelling.{u8, u16, u64}
use Rattle.smart_statements.specs.Forms.{SignedBy}
use Rattle.smart_statements.specs.Kinds.{requests}
use Rattle.smart_statements.specs.Batches.{batch_text}
use Rattle.smart_statements.specs.Spelling.{request, FitsSigned, FitsRequest}
use Rattle.smart_statements.specs.declared.statement.Request.{Request}
use Rattle.smart_service.specs.declared.table.TableLine.{TableLine}
use Rattle.replica_rules.specs.Seals.{is_verified}
use Rattle.replica_rules.specs.Replicas.{is_next}
use Rattle.replica_rules.specs.Pools.{offered, settled}
use Rattle.request_pool.specs.Offers.{IsSound, has_client, offer_of, pool_after}
use Rattle.request_pool.specs.declared.pool.Offer.TheVariants.{Kept, Replaced, Old, Ahead, BadTag, Stranger}
use Rattle.request_pool.proofs.Batches.{text_of_one}
use Rattle.request_pool.proofs.Subsequences.{each_filtered}

each_by : (P : SignedBy Request → Type 0) (old q : SignedBy Request) (olds pool : List (SignedBy Request)) (b : Bool) → P q → P old → Each P olds → Each P pool → Each P (cond b (q ∷ olds) (old ∷ pool))
each_by P old q olds pool true new had rest more = (new, rest)
each_by P old q olds pool false new had rest more = (had, more)

each_offered : (P : SignedBy Request → Type 0) (pool : List (SignedBy Request)) (q : SignedBy Request) → P q → Each P pool → Each P (offered pool q)
each_offered P [] q new each = (new, tt)
each_offered P (old ∷ olds) q new each = each_by P old q olds (offered olds q) (old.statement.client == q.statement.client) new each.0 each.1 (each_offered P olds q new each.1)

-- an answer to a request that is verified, and whose client is known, leaves the pool sound

after_known : (secret : List ℕ) (pool : List (SignedBy Request)) (q : SignedBy Request) (old ahead had : Bool) → IsSound secret q → Each (IsSound secret) pool
    → Each (IsSound secret) (pool_after (cond old Old (cond ahead Ahead (cond had Replaced Kept))) pool q)
after_known secret pool q true ahead had sound each = each
after_known secret pool q false true had sound each = each
after_known secret pool q false false true sound each = each_offered (IsSound secret) pool q sound each
after_known secret pool q false false false sound each = each_offered (IsSound secret) pool q sound each

after_verified : (secret : List ℕ) (pool : List (SignedBy Request)) (q : SignedBy Request) (stranger old ahead had : Bool) → (stranger ≡ false → IsSound secret q) → Each (IsSound secret) pool
    → Each (IsSound secret) (pool_after (cond stranger Stranger (cond old Old (cond ahead Ahead (cond had Replaced Kept)))) pool q)
after_verified secret pool q true old ahead had sound each = each
after_verified secret pool q false old ahead had sound each = after_known secret pool q old ahead had (sound refl) each

after_any : (secret : List ℕ) (pool : List (SignedBy Request)) (q : SignedBy Request) (verified stranger old ahead had : Bool) → (verified ≡ true → stranger ≡ false → IsSound secret q) → Each (IsSound secret) pool
    → Each (IsSound secret) (pool_after (cond (not verified) BadTag (cond stranger Stranger (cond old Old (cond ahead Ahead (cond had Replaced Kept))))) pool q)
after_any secret pool q false stranger old ahead had sound each = each
after_any secret pool q true stranger old ahead had sound each = after_verified secret pool q stranger old ahead had (sound refl) each

pub sound_after : (secret : List ℕ) (pool : List (SignedBy Request)) (q : SignedBy Request) (last : ℕ) → length (batch_text (q ∷ [])) ≤ 262144 → Each (IsSound secret) pool
    → Each (IsSound secret) (pool_after (offer_of secret pool q last) pool q)
sound_after secret pool q last small each =
    after_any secret pool q (is_verified requests secret q) (nat_lt 1024 q.statement.client) (nat_le q.statement.seq last) (nat_lt (last + 1) q.statement.seq) (has_client pool q.statement.client)
    (λ verified known. record { verified = verified; known = ltb-false 1024 q.statement.client known; small = small }) each

pub sound_settled : (secret : List ℕ) (table : List TableLine) (pool : List (SignedBy Request)) → Each (IsSound secret) pool → Each (IsSound secret) (settled table pool)
sound_settled secret table pool each = each_filtered (IsSound secret) (IsSound secret) (λ q. is_next table q.statement) (λ q sound next. sound) pool each

-- a request that has a spelling is small enough alone
pub small_alone : (q : SignedBy Request) → FitsSigned requests FitsRequest q → length (batch_text (q ∷ [])) ≤ 262144
small_alone q fit =
    let r = q.statement in
    omega (
      arith,
      text_of_one q,
      fit.tag_fits.1,
      fit.statement_fits.op_fits,
      length-append (u8 2) (u16 q.signer ++ ((to_be_bytes w32 (length (request r)) ++ request r) ++ (to_be_bytes w16 (length q.tag) ++ q.tag))),
      length-append (u16 q.signer) ((to_be_bytes w32 (length (request r)) ++ request r) ++ (to_be_bytes w16 (length q.tag) ++ q.tag)),
      length-append (to_be_bytes w32 (length (request r)) ++ request r) (to_be_bytes w16 (length q.tag) ++ q.tag),
      length-append (to_be_bytes w32 (length (request r))) (request r),
      length-append (to_be_bytes w16 (length q.tag)) q.tag,
      length-append (u8 9) (u16 r.client ++ (u64 r.seq ++ (u64 r.after ++ (to_be_bytes w32 (length r.op) ++ r.op)))),
      length-append (u16 r.client) (u64 r.seq ++ (u64 r.after ++ (to_be_bytes w32 (length r.op) ++ r.op))),
      length-append (u64 r.seq) (u64 r.after ++ (to_be_bytes w32 (length r.op) ++ r.op)),
      length-append (u64 r.after) (to_be_bytes w32 (length r.op) ++ r.op),
      length-append (to_be_bytes w32 (length r.op)) r.op,
    )
