-- What is asked again, by the actions that wait among all.
use Rattle.std.proofs.Common.{◌≡◌, ℕ, suc, ◌+◌, List, [], ◌∷◌, ◌++◌, Bool, true, Some, None, refl, ap, sym, ◌∙◌, arith, append_assoc}
use Rattle.std.proofs.Common.{length, length-append, subst, eq-eqb}
use Rattle.std.specs.Prelude.{slice_get, if◌then◌else◌, ◌==◌, ◌&&◌}
use Rattle.arj_asking.specs.Again.{again_at}
use Rattle.arj_coord.specs.Waiting.{now_in, waiting}
use Rattle.arj_protocol.specs.Asking.{again_all, again_now, asks_all, asks_node}
use Rattle.arj_protocol.specs.Commit.{plan_of}
use Rattle.arj_protocol.specs.Commit as commit
use Rattle.arj_protocol.specs.Coord.{Coord, Doing, Now, Idle, Calling, Committing, doing_of, uid_at}
use Rattle.arj_protocol.specs.Effect.{Did}
use Rattle.arj_protocol.specs.Step.{is_waiting_now}
use Rattle.arj_protocol.specs.Tree.{at_place}
use Rattle.arj_protocol.specs.Words.{Path, Ask}

here : (before ds : List Doing) (d : Doing) → slice_get (before ++ d ∷ ds) (length before) ≡ Some d
here [] ds d = refl
here (b ∷ before) ds d = here before ds d

place_here : (n : ℕ) (before ds : List Doing) (d : Doing) → suc (length before) ≡ n → at_place n (before ++ d ∷ ds) ≡ Some d
place_here n before ds d is = subst (λ k. at_place k (before ++ d ∷ ds) ≡ Some d) is (here before ds d)

-- first this action, then the others
goes : (n : ℕ) (all ds : List Doing) (now : Now) (c : Coord) → now_in (at_place n all) ≡ now
    → ((e : Coord) → again_all ds e ≡ again_at all (waiting (n + 1) ds) e)
    → (let t : Did Coord = again_now c now in let q : Did Coord = again_all ds t.part in record { part = q.part; outs = t.outs ++ q.outs })
    ≡ again_at all (n ∷ waiting (n + 1) ds) c
goes n all ds now c is later =
    let t : Did Coord = again_now c now in
    (λ i. record { part = (later t.part i).part; outs = t.outs ++ (later t.part i).outs })
    ∙ ap (λ (w : Now). let s : Did Coord = again_now c w in let q : Did Coord =
    again_at all (waiting (n + 1) ds) s.part in record { part = q.part; outs = s.outs ++ q.outs }) (sym is)

-- which asks nothing where it waits for nothing
by_now : (n : ℕ) (all ds : List Doing) (now : Now) (c : Coord) → now_in (at_place n all) ≡ now
    → ((e : Coord) → again_all ds e ≡ again_at all (waiting (n + 1) ds) e)
    → (let t : Did Coord = again_now c now in let q : Did Coord = again_all ds t.part in record { part = q.part; outs = t.outs ++ q.outs })
    ≡ again_at all (if is_waiting_now now then n ∷ waiting (n + 1) ds else waiting (n + 1) ds) c
by_now n all ds Idle c is later = later c
by_now n all ds (Calling s) c is later = goes n all ds (Calling s) c is later
by_now n all ds (Committing m) c is later = goes n all ds (Committing m) c is later

again_waiting : (n : ℕ) (before ds : List Doing) (c : Coord) → suc (length before) ≡ n →
    again_all ds c ≡ again_at (before ++ ds) (waiting n ds) c
again_waiting n before [] c is = refl
again_waiting n before (d ∷ ds) c is =
    let all : before ++ d ∷ ds ≡ (before ++ d ∷ []) ++ ds = sym (append_assoc before (d ∷ []) ds) in
    let count : suc (length (before ++ d ∷ [])) ≡ n + 1 = omega (arith, length-append before (d ∷ [])) in
    by_now n (before ++ d ∷ ds) ds d.now c (ap now_in (place_here n before ds d is))
    (λ e. again_waiting (n + 1) (before ++ d ∷ []) ds e count ∙ ap (λ ks. again_at ks (waiting (n + 1) ds) e) (sym all))

-- all that wait are asked again
pub again_is : (ds : List Doing) (c : Coord) → again_all ds c ≡ again_at ds (waiting 1 ds) c
again_is ds c = again_waiting 1 [] ds c refl

-- ---- what stays

asks_keep : (p : Path) (req : ℕ) (ws : List (ℕ × Ask)) (c : Coord) → (asks_all p req ws c).part.doings ≡ c.doings
asks_keep p req [] c = refl
asks_keep p req (w ∷ ws) c = asks_keep p req ws ((asks_node p req w c).part)

pub again_keeps : (c : Coord) (now : Now) → (again_now c now).part.doings ≡ c.doings
again_keeps c Idle = refl
again_keeps c (Calling s) = refl
again_keeps c (Committing m) = asks_keep (plan_of m).path (plan_of m).req (commit.waiting m) c

-- ---- an action by its number

same_number : (n : ℕ) → (n == n) ≡ true
same_number n = eq-eqb n n refl

-- its Uid finds it
pub uid_finds : (k : ℕ) (c : Coord) → doing_of (uid_at k c) c ≡ at_place k c.doings
uid_finds k c =
    ap (λ (b : Bool). if b && (c.tree.inc == c.tree.inc) then at_place k c.doings else None) (same_number c.tree.node)
    ∙ ap (λ (b : Bool). if b then at_place k c.doings else None) (same_number c.tree.inc)
