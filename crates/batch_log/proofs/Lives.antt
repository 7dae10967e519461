-- A crash at any moment leaves a log of the same kind.
use Rattle.std.proofs.Common.{◌≡◌, ◌≢◌, ◌⊎◌, inl, inr, ⊎_elim, ℕ, ◌+◌, ◌≤◌, List, [], ◌∷◌, ◌++◌, length, get_or, take, drop, refl, sym, ◌∙◌, ap, subst, append_assoc, arith, length-append, length-drop, take-append-drop}
use Rattle.std.proofs.lemmas.Bool.{cases_eq}
use Rattle.std.proofs.lemmas.List.{take_at, drop_all}
use Rattle.disk_model.specs.Cells.{Cells, IsImage, Within, settled, written}
use Rattle.disk_model.proofs.Images.{image_settled, image_front}
use Rattle.store_form.specs.Spelling.{Group, group_text, IsGroup}
use Rattle.batch_log.specs.declared.job.Job.{Job}
use Rattle.batch_log.specs.declared.job.Job.TheVariants.{Rest, Torn, Close, SyncClose, Body, SyncBody, Gate, SyncGate}
use Rattle.batch_log.specs.Log.{log_bytes, AreGroups, restored}
use Rattle.batch_log.specs.Jobs.{Clean, Behind, Staged, Gated, IsTorn, ToClose, Closing, Stands, IsIdle, at_stake, called}
use Rattle.batch_log.specs.Wires.{Ends, Bare, Armed, Wire, Next, LeavesWire, Wired}
use Rattle.batch_log.proofs.Restored.{log_push, groups_push, restored_is, closed}
use Rattle.batch_log.proofs.Steps.{short, byte_over, added}
use Rattle.batch_log.proofs.Phases.{wrote_zero, wrote_body, wrote_gate}

pub cancel : (xs ys zs : List ℕ) → xs ++ ys ≡ xs ++ zs → ys ≡ zs
cancel [] ys zs same = same
cancel (x ∷ xs) ys zs same = let rest : xs ++ ys ≡ xs ++ zs = cc in cancel xs ys zs rest

-- ---- torn gates

-- what a gate of 1 would bring back is what a log of its own lives says of it
torn_is : (end : ℕ) (rest : List ℕ) (gs other instead : List Group) → IsTorn end rest gs other → Ends (log_bytes gs ++ rest) gs instead ⊎ (Bare (log_bytes gs ++ rest) gs instead ⊎ Armed (log_bytes gs ++ rest) gs instead)
    → other ≡ instead
torn_is end rest gs other instead t (inl e) =
    let is : rest ≡ 0 ∷ e.tail = cancel (log_bytes gs) rest (0 ∷ e.tail) e.are in
    absurd (t.torn (ap (λ (l : List ℕ). get_or l 0 1) is))
torn_is end rest gs other instead t (inr (inl b)) =
    let is : rest ≡ b.rest = cancel (log_bytes gs) rest b.rest b.are in
    let nothing : drop 1 rest ≡ [] = drop_all 1 rest (omega (arith, b.short, ap length is)) in
    t.is ∙ ap (λ (l : List ℕ). restored (log_bytes gs ++ 1 ∷ l)) nothing ∙ restored_is gs (1 ∷ []) t.fit (short (1 ∷ []) (omega arith)) ∙ sym b.nothing
torn_is end rest gs other instead t (inr (inr a)) =
    let is : rest ≡ a.gate ∷ (group_text a.group ++ 0 ∷ a.tail) = cancel (log_bytes gs) rest (a.gate ∷ (group_text a.group ++ 0 ∷ a.tail)) a.are in
    t.is ∙ ap (λ (l : List ℕ). restored (log_bytes gs ++ 1 ∷ drop 1 l)) is ∙ added gs (length (log_bytes gs)) refl t.fit a.group a.tail a.fits ∙ sym a.is

-- what such a log has behind its groups, where the gate is torn
torn_kind : (end : ℕ) (rest : List ℕ) (gs other instead : List Group) → IsTorn end rest gs other → Ends (log_bytes gs ++ rest) gs instead ⊎ (Bare (log_bytes gs ++ rest) gs instead ⊎ Armed (log_bytes gs ++ rest) gs instead)
    → Bare (log_bytes gs ++ rest) gs other ⊎ Armed (log_bytes gs ++ rest) gs other
torn_kind end rest gs other instead t (inl e) =
    let is : rest ≡ 0 ∷ e.tail = cancel (log_bytes gs) rest (0 ∷ e.tail) e.are in
    absurd (t.torn (ap (λ (l : List ℕ). get_or l 0 1) is))
torn_kind end rest gs other instead t (inr kind) =
    subst (λ (o : List Group). Bare (log_bytes gs ++ rest) gs o ⊎ Armed (log_bytes gs ++ rest) gs o) (sym (torn_is end rest gs other instead t (inr kind))) kind

-- whatever a crash makes of the gate of a whole group
any_gate : (gs : List Group) (g : Group) (tail c : List ℕ) (gate : ℕ) (other : List Group) → AreGroups gs → IsGroup g → other ≡ gs ++ g ∷ [] → c ≡ log_bytes gs ++ gate ∷ (group_text g ++ 0 ∷ tail) → Next c gs other
any_gate gs g tail c gate other fit fits is parts =
    ⊎_elim
    (λ (one : gate ≡ 1). inr (inr (
      subst AreGroups (sym is) (groups_push gs g fit fits),
      inl (record {
        tail = tail;
        are = parts ∙ ap (λ (b : ℕ). log_bytes gs ++ b ∷ (group_text g ++ 0 ∷ tail)) one ∙ sym (log_push gs g (0 ∷ tail)) ∙ ap (λ (l : List Group). log_bytes l ++ 0 ∷ tail) (sym is);
        nothing = refl;
      }),
    )))
    (λ (not_one : gate ≢ 1).
    ⊎_elim
    (λ (closed_gate : gate ≡ 0). inl (
      fit,
      inl (record {
        tail = group_text g ++ 0 ∷ tail;
        are = parts ∙ ap (λ (b : ℕ). log_bytes gs ++ b ∷ (group_text g ++ 0 ∷ tail)) closed_gate;
        nothing = refl;
      }),
    ))
    (λ (not_zero : gate ≢ 0). inr (inl (fit, inr (inr (record { gate = gate; torn = (not_zero, not_one); group = g; fits = fits; tail = tail; are = parts; is = is })))))
    (cases_eq gate 0))
    (cases_eq gate 1)

image_of : (cells by : Cells) (c : List ℕ) → cells ≡ by → IsImage cells c → IsImage by c
image_of cells by c same image = subst (λ (q : Cells). IsImage q c) same image

ends_so : (c tail : List ℕ) (gs other : List Group) → AreGroups gs → c ≡ log_bytes gs ++ 0 ∷ tail → Next c gs other
ends_so c tail gs other fit is = inl (fit, inl (record { tail = tail; are = is; nothing = refl }))

lives_clean : (cells : Cells) (end : ℕ) (gs other : List Group) → Clean cells end gs → LeavesWire cells gs other
lives_clean cells end gs other s c image = ends_so c s.tail gs other s.fit (image_settled _ c (image_of cells _ c s.are image))

lives_staged : (cells : Cells) (end next : ℕ) (g : Group) (gs other : List Group) → Staged cells end next g gs → LeavesWire cells gs other
lives_staged cells end next g gs other s c image = ends_so c (group_text g ++ 0 ∷ s.tail) gs other s.fit (image_settled _ c (image_of cells _ c s.are image))

lives_behind : (cells : Cells) (end next : ℕ) (g : Group) (gs other : List Group) → Behind cells end next g gs → LeavesWire cells gs other
lives_behind cells end next g gs other s c image =
    let bytes = group_text g ++ 0 ∷ [] in
    let now = log_bytes gs ++ 0 ∷ s.tail in
    let same : take (end + 1) c ≡ take (end + 1) now = image_front (end + 1) bytes now c (omega (arith, s.ends, length-append (log_bytes gs) (0 ∷ s.tail))) (image_of cells _ c s.are image) in
    let front : take (end + 1) now ≡ log_bytes gs ++ 0 ∷ [] =
    ap (λ (l : List ℕ). take (end + 1) l) (sym (append_assoc (log_bytes gs) (0 ∷ []) s.tail)) ∙ take_at (log_bytes gs ++ 0 ∷ []) s.tail (end + 1) (omega (arith, s.ends, length-append (log_bytes gs) (0 ∷ []))) in
    let parts : c ≡ log_bytes gs ++ 0 ∷ drop (end + 1) c =
    sym (take-append-drop (end + 1) c) ∙ ap (λ (l : List ℕ). l ++ drop (end + 1) c) (same ∙ front) ∙ append_assoc (log_bytes gs) (0 ∷ []) (drop (end + 1) c) in
    ends_so c (drop (end + 1) c) gs other s.fit parts

lives_gated : (cells : Cells) (end next : ℕ) (g : Group) (gs other : List Group) → Gated cells end next g gs → other ≡ gs ++ g ∷ [] → LeavesWire cells gs other
lives_gated cells end next g gs other s more c image =
    any_gate gs g s.tail c (get_or c end 0) other s.fit s.fits more (byte_over gs end s.ends s.fit 0 1 (group_text g ++ 0 ∷ s.tail) c (image_of cells _ c s.are image))

wire_of : (cells by : Cells) (bytes : List ℕ) (gs : List Group) → cells ≡ by → by.sure ≡ bytes → (w : Wired cells gs) → Wire bytes gs w.instead
wire_of cells by bytes gs same sure w = subst (λ (l : List ℕ). Wire l gs w.instead) (ap (λ (q : Cells). q.sure) same ∙ sure) w.wire

lives_torn : (cells : Cells) (end : ℕ) (gs other : List Group) → ToClose cells end gs other → Wired cells gs → LeavesWire cells gs other
lives_torn cells end gs other s w c image =
    let now = log_bytes gs ++ s.rest in
    let same : c ≡ now = image_settled now c (image_of cells _ c s.are image) in
    let kind = torn_kind end s.rest gs other w.instead s.torn (wire_of cells (settled now) now gs s.are refl w).1 in
    inr (inl (subst (λ (l : List ℕ). Wire l gs other) (sym same) (s.torn.fit, inr kind)))

closing_bare : (cells : Cells) (end : ℕ) (gs other : List Group) (s : Closing cells end gs other) → Bare (log_bytes gs ++ s.rest) gs other → LeavesWire cells gs other
closing_bare cells end gs other s b c image =
    let now = log_bytes gs ++ s.rest in
    let i = image_of cells _ c s.are image in
    let few : length s.rest ≤ 1 = omega (arith, b.short, ap length (cancel (log_bytes gs) s.rest b.rest b.are)) in
    let long : length now ≡ end + length s.rest = omega (arith, s.torn.ends, length-append (log_bytes gs) s.rest) in
    let same : take end c ≡ take end now = image_front end (0 ∷ []) now c (omega (arith, long)) i in
    let front : take end now ≡ log_bytes gs = take_at (log_bytes gs) s.rest end (sym s.torn.ends) in
    let parts : c ≡ log_bytes gs ++ drop end c = sym (take-append-drop end c) ∙ ap (λ (l : List ℕ). l ++ drop end c) (same ∙ front) in
    inl (s.torn.fit, inr (inl (record { rest = drop end c; are = parts; short = omega (arith, length-drop end c, i.no_longer, long, few); nothing = refl })))

closing_armed : (cells : Cells) (end : ℕ) (gs other : List Group) (s : Closing cells end gs other) → Armed (log_bytes gs ++ s.rest) gs other → LeavesWire cells gs other
closing_armed cells end gs other s a c image =
    let is : s.rest ≡ a.gate ∷ (group_text a.group ++ 0 ∷ a.tail) = cancel (log_bytes gs) s.rest (a.gate ∷ (group_text a.group ++ 0 ∷ a.tail)) a.are in
    let i = image_of cells _ c (s.are ∙ ap (λ (l : List ℕ). written end (0 ∷ []) (settled (log_bytes gs ++ l))) is) image in
    any_gate gs a.group a.tail c (get_or c end 0) other s.torn.fit a.fits a.is (byte_over gs end s.torn.ends s.torn.fit a.gate 0 (group_text a.group ++ 0 ∷ a.tail) c i)

lives_closing : (cells : Cells) (end : ℕ) (gs other : List Group) → Closing cells end gs other → Wired cells gs → LeavesWire cells gs other
lives_closing cells end gs other s w c image =
    let now = log_bytes gs ++ s.rest in
    let kind = torn_kind end s.rest gs other w.instead s.torn (wire_of cells (written end (0 ∷ []) (settled now)) now gs s.are refl w).1 in
    ⊎_elim (λ (b : Bare now gs other). closing_bare cells end gs other s b c image) (λ (a : Armed now gs other). closing_armed cells end gs other s a c image) kind

pub lives : (cells : Cells) (end : ℕ) (job : Job) (g : Group) (gs other : List Group) → Stands cells end job g gs other → Wired cells gs → LeavesWire cells gs other
lives cells end Rest g gs other s w = lives_clean cells end gs other s.0
lives cells end Torn g gs other s w = lives_torn cells end gs other s w
lives cells end (Close waiting) g gs other s w = lives_torn cells end gs other s.0 w
lives cells end (SyncClose waiting) g gs other s w = lives_closing cells end gs other s.0 w
lives cells end (Body bytes) g gs other s w = lives_clean cells end gs other s.0
lives cells end (SyncBody next) g gs other s w = lives_behind cells end next g gs other s.0
lives cells end (Gate next) g gs other s w = lives_staged cells end next g gs other s.0
lives cells end (SyncGate next) g gs other s w = lives_gated cells end next g gs other s.0 s.1

-- during a call, whether it goes well or not
pub call_lives : (cells : Cells) (end : ℕ) (job : Job) (g : Group) (gs other : List Group) → Stands cells end job g gs other → Wired cells gs → LeavesWire (called job end cells) gs (at_stake job g gs other)
call_lives cells end Rest g gs other s w = lives cells end Rest g gs other s w
call_lives cells end Torn g gs other s w = lives cells end Torn g gs other s w
call_lives cells end (Close waiting) g gs other s w =
    lives_closing (written end (0 ∷ []) cells) end gs other (wrote_zero cells _ end gs other s.0 refl) (record { instead = w.instead; wire = w.wire })
call_lives cells end (SyncClose waiting) g gs other s w = lives cells end (SyncClose waiting) g gs other s w
call_lives cells end (Body bytes) g gs other s w =
    lives_behind (written (end + 1) bytes cells) end (end + length bytes) g gs other (wrote_body cells _ end (end + length bytes) bytes g gs s.0 s.1.0 refl refl)
call_lives cells end (SyncBody next) g gs other s w = lives cells end (SyncBody next) g gs other s w
call_lives cells end (Gate next) g gs other s w = lives_gated (written end (1 ∷ []) cells) end next g gs (gs ++ g ∷ []) (wrote_gate cells _ end next g gs s.0 refl) refl
call_lives cells end (SyncGate next) g gs other s w = lives cells end (SyncGate next) g gs other s w

pub fewer_wires : (old new : Cells) (gs other : List Group) → Within new old → LeavesWire old gs other → LeavesWire new gs other
fewer_wires old new gs other within each c is = each c (within c is)

-- ---- what such a log restores

pub wire_restores : (bytes : List ℕ) (gs other : List Group) → Wire bytes gs other → restored bytes ≡ gs
wire_restores bytes gs other (fit, inl e) = ap restored e.are ∙ restored_is gs (0 ∷ e.tail) fit (closed 0 e.tail (omega arith))
wire_restores bytes gs other (fit, inr (inl b)) = ap restored b.are ∙ restored_is gs b.rest fit (short b.rest b.short)
wire_restores bytes gs other (fit, inr (inr a)) = ap restored a.are ∙ restored_is gs (a.gate ∷ (group_text a.group ++ 0 ∷ a.tail)) fit (closed a.gate (group_text a.group ++ 0 ∷ a.tail) a.torn.1)

pub empty_wire : Wire [] [] []
empty_wire = (tt, inr (inl (record { rest = []; are = refl; short = omega arith; nothing = refl })))

-- ---- a log that is opened again stands for what its own lives have left

now_of : (cells : Cells) (bytes by : List ℕ) → cells ≡ settled bytes → cells ≡ settled by → bytes ≡ by
now_of cells bytes by are is = ap (λ (q : Cells). q.now) (sym are ∙ is)

clean_back : (cells : Cells) (end : ℕ) (bytes : List ℕ) (gs : List Group) → cells ≡ settled bytes → Clean cells end gs → restored bytes ≡ gs
clean_back cells end bytes gs are s = ap restored (now_of cells bytes (log_bytes gs ++ 0 ∷ s.tail) are s.are) ∙ restored_is gs (0 ∷ s.tail) s.fit (closed 0 s.tail (omega arith))

torn_back : (cells : Cells) (end : ℕ) (bytes : List ℕ) (gs other : List Group) → cells ≡ settled bytes → ToClose cells end gs other → restored bytes ≡ gs
torn_back cells end bytes gs other are s = ap restored (now_of cells bytes (log_bytes gs ++ s.rest) are s.are) ∙ restored_is gs s.rest s.torn.fit s.torn.nothing

clean_as : (cells : Cells) (end : ℕ) (bytes : List ℕ) (gs other : List Group) → cells ≡ settled bytes → Clean cells end gs → Wire bytes gs other → other ≡ gs
clean_as cells end bytes gs other are s (fit, inl e) = e.nothing
clean_as cells end bytes gs other are s (fit, inr (inl b)) = b.nothing
clean_as cells end bytes gs other are s (fit, inr (inr a)) =
    let same : a.gate ∷ (group_text a.group ++ 0 ∷ a.tail) ≡ 0 ∷ s.tail =
    cancel (log_bytes gs) (a.gate ∷ (group_text a.group ++ 0 ∷ a.tail)) (0 ∷ s.tail) (sym a.are ∙ now_of cells bytes (log_bytes gs ++ 0 ∷ s.tail) are s.are) in
    absurd (a.torn.0 (ap (λ (l : List ℕ). get_or l 0 1) same))

torn_as : (cells : Cells) (end : ℕ) (bytes : List ℕ) (gs other instead : List Group) → cells ≡ settled bytes → ToClose cells end gs instead → Wire bytes gs other → instead ≡ other
torn_as cells end bytes gs other instead are s w =
    torn_is end s.rest gs instead other s.torn (subst (λ (l : List ℕ). Wire l gs other) (now_of cells bytes (log_bytes gs ++ s.rest) are s.are) w).1

pub opened_as : (bytes : List ℕ) (gs other : List Group) → Wire bytes gs other → (cells : Cells) (end : ℕ) (job : Job) (g : Group) (kept instead : List Group) → cells ≡ settled bytes → IsIdle job
    → Stands cells end job g kept instead → (kept ≡ gs) × (instead ≡ other)
opened_as bytes gs other w cells end Rest g kept instead are idle s =
    let back : kept ≡ gs = sym (clean_back cells end bytes kept are s.0) ∙ wire_restores bytes gs other w in
    (back, s.1 ∙ back ∙ sym (clean_as cells end bytes gs other are (subst (Clean cells end) back s.0) w))
opened_as bytes gs other w cells end Torn g kept instead are idle s =
    let back : kept ≡ gs = sym (torn_back cells end bytes kept instead are s) ∙ wire_restores bytes gs other w in
    (back, torn_as cells end bytes gs other instead are (subst (λ (k : List Group). ToClose cells end k instead) back s) w)
opened_as bytes gs other w cells end (Close waiting) g kept instead are idle s = absurd cc
opened_as bytes gs other w cells end (SyncClose waiting) g kept instead are idle s = absurd cc
opened_as bytes gs other w cells end (Body waiting) g kept instead are idle s = absurd cc
opened_as bytes gs other w cells end (SyncBody n) g kept instead are idle s = absurd cc
opened_as bytes gs other w cells end (Gate n) g kept instead are idle s = absurd cc
opened_as bytes gs other w cells end (SyncGate n) g kept instead are idle s = absurd cc

-- what was sure last restores what is kept
pub sure_restores : (cells : Cells) (end : ℕ) (job : Job) (g : Group) (gs other : List Group) → Stands cells end job g gs other → restored cells.sure ≡ gs
sure_restores cells end Rest g gs other s = ap (λ (q : Cells). restored q.sure) s.0.are ∙ restored_is gs (0 ∷ s.0.tail) s.0.fit (closed 0 s.0.tail (omega arith))
sure_restores cells end Torn g gs other s = ap (λ (q : Cells). restored q.sure) s.are ∙ restored_is gs s.rest s.torn.fit s.torn.nothing
sure_restores cells end (Close waiting) g gs other s = ap (λ (q : Cells). restored q.sure) s.0.are ∙ restored_is gs s.0.rest s.0.torn.fit s.0.torn.nothing
sure_restores cells end (SyncClose waiting) g gs other s = ap (λ (q : Cells). restored q.sure) s.0.are ∙ restored_is gs s.0.rest s.0.torn.fit s.0.torn.nothing
sure_restores cells end (Body bytes) g gs other s = ap (λ (q : Cells). restored q.sure) s.0.are ∙ restored_is gs (0 ∷ s.0.tail) s.0.fit (closed 0 s.0.tail (omega arith))
sure_restores cells end (SyncBody next) g gs other s = ap (λ (q : Cells). restored q.sure) s.0.are ∙ restored_is gs (0 ∷ s.0.tail) s.0.fit (closed 0 s.0.tail (omega arith))
sure_restores cells end (Gate next) g gs other s =
    ap (λ (q : Cells). restored q.sure) s.0.are ∙ restored_is gs (0 ∷ (group_text g ++ 0 ∷ s.0.tail)) s.0.fit (closed 0 (group_text g ++ 0 ∷ s.0.tail) (omega arith))
sure_restores cells end (SyncGate next) g gs other s =
    ap (λ (q : Cells). restored q.sure) s.0.are ∙ restored_is gs (0 ∷ (group_text g ++ 0 ∷ s.0.tail)) s.0.fit (closed 0 (group_text g ++ 0 ∷ s.0.tail) (omega arith))

-- ---- a log stays such a log

pub wired_written : (cells new : Cells) (at : ℕ) (bytes : List ℕ) (gs : List Group) → new ≡ written at bytes cells → Wired cells gs → Wired new gs
wired_written cells new at bytes gs is w = record { instead = w.instead; wire = subst (λ (q : Cells). Wire q.sure gs w.instead) (sym is) w.wire }

pub wired_same : (cells new : Cells) (gs : List Group) → new ≡ cells → Wired cells gs → Wired new gs
wired_same cells new gs is w = record { instead = w.instead; wire = subst (λ (q : Cells). Wire q.sure gs w.instead) (sym is) w.wire }

pub wired_clean : (cells : Cells) (end : ℕ) (gs : List Group) → Clean cells end gs → Wired cells gs
wired_clean cells end gs s = record { instead = gs; wire = (s.fit, inl (record { tail = s.tail; are = ap (λ (q : Cells). q.sure) s.are; nothing = refl })) }

pub wired_staged : (cells : Cells) (end next : ℕ) (g : Group) (gs : List Group) → Staged cells end next g gs → Wired cells gs
wired_staged cells end next g gs s = record { instead = gs; wire = (s.fit, inl (record { tail = group_text g ++ 0 ∷ s.tail; are = ap (λ (q : Cells). q.sure) s.are; nothing = refl })) }
