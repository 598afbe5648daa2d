-- The entry of an object after the tops that moved its stores.
use Rattle.std.proofs.Common.{◌≡◌, ◌≤◌, ◌<◌, ℕ, zero, suc, take, get_or, ◌+◌, List, [], ◌∷◌, ◌++◌, length, map, Bool, true, false, cond}
use Rattle.std.proofs.Common.{not, ◌||◌, refl, sym, ◌∙◌, ap, append-nil, length-append, arith}
use Rattle.std.specs.Prelude.{filter}
use Rattle.std.proofs.lemmas.List.{map-append, take_more}
use Rattle.arj_base.specs.Uid.{nobody}
use Rattle.arj_journal.specs.declared.body.Line.{Line}
use Rattle.arj_journal.specs.declared.header.Header.{Header}
use Rattle.arj_law.proofs.Listed.{changers_append, entry_decided, last_of_append, listed_append, listed_decided}
use Rattle.arj_law.specs.Growth.{AreDecidedInOrder, IdleInPlace, first_stores}
use Rattle.arj_model.specs.Actions.{acts}
use Rattle.arj_model.specs.Calls.{Top, tops}
use Rattle.arj_model.specs.CausePends.{has_some}
use Rattle.arj_model.specs.Last.{changer_from, changers, increasing, is_among, joins_of, leaves_of, listed_after, listed_from, same_list}
use Rattle.arj_model.specs.Last.{serial_tops, uid_of_id}
use Rattle.arj_model.specs.Serial.{arrange, lex, serial_key}
use Rattle.arj_start.specs.Start.{none_written}
use Rattle.arj_changes.specs.Folded.{IsFolded, IsStepped, tops_ranked}
use Rattle.arj_changes.specs.Kept.{AreKept}
use Rattle.arj_changes.specs.Stores.{IsEntry, is_mover, joined_by, left_by, moves, stores_after}
use Rattle.arj_changes.specs.Tops.{rank_less, rank_of, top_called, tops_called}
use Rattle.arj_changes.specs.declared.entry.EntryState.{EntryState}
use Rattle.arj_changes.specs.declared.kept.Called.{Called}
use Rattle.arj_changes.specs.declared.kept.Changes.{Changes}
use Rattle.arj_changes.specs.declared.order.Ranked.{Ranked}
use Rattle.arj_changes.proofs.Moved.{joins_are, leaves_are}
use Rattle.arj_changes.proofs.Sorted.{arrange_map, filter_map_test, filter_sorted}

-- The tops that moved a store, in serial order.

map_map : {A B C : Type 0} (f : A → B) (g : B → C) (xs : List A) → map g (map f xs) ≡ map (λ a. g (f a)) xs
map_map f g [] = refl
map_map f g (x ∷ xs) = ap (λ ys. g (f x) ∷ ys) (map_map f g xs)

mover_is : (lines : List Line) (c : Changes) → AreKept lines c → (x : ℕ) → is_mover c x ≡ (λ top. moves lines x (top_called top))
mover_is lines c has x = λ i top. has_some (leaves_are lines c has top.id x i) || has_some (joins_are lines c has top.id x i)

pub movers_sorted : (lines : List Line) (c : Changes) → AreKept lines c → (x : ℕ) (cs : List Called) → tops_called cs ≡ tops lines
    → tops_ranked (arrange rank_less (map (rank_of (tops_called cs)) (filter (is_mover c x) cs))) ≡ filter (moves lines x) (serial_tops lines)
movers_sorted lines c has x cs are =
    (λ i. tops_ranked (arrange rank_less (map (rank_of (are i)) (filter (mover_is lines c has x i) cs))))
    ∙ ap tops_ranked (arrange_map rank_less (rank_of ts) movers)
    ∙ map_map (rank_of ts) (λ r. top_called r.top) (arrange less_called movers)
    ∙ sym (arrange_map less top_called movers)
    ∙ ap (arrange less) (filter_map_test (moves lines x) top_called cs ∙ ap (filter (moves lines x)) are)
    ∙ filter_sorted (λ t. serial_key ts t.id) (moves lines x) ts
  where
    ts : List Top
    ts = tops lines

    movers : List Called
    movers = filter (λ top. moves lines x (top_called top)) cs

    less : Top → Top → Bool
    less t u = lex (serial_key ts t.id) (serial_key ts u.id)

    less_called : Called → Called → Bool
    less_called c d = rank_less (rank_of ts c) (rank_of ts d)

-- Tops that move no store change nothing.

keeps_all : (xs : List ℕ) → filter (λ s. not (is_among [] s)) xs ≡ xs
keeps_all [] = refl
keeps_all (x ∷ xs) = ap (λ ys. x ∷ ys) (keeps_all xs)

nothing : {A : Type 0} (xs ys : List A) → (has_some xs || has_some ys) ≡ false → (xs ≡ []) × (ys ≡ [])
nothing [] [] e = (refl, refl)
nothing [] (y ∷ ys) e = absurd (cc e)
nothing (x ∷ xs) ys e = absurd (cc e)

idle : (lines : List Line) (x : ℕ) (stores : List ℕ) (t : Top) → moves lines x t ≡ false → listed_after lines x stores t ≡ stores
idle lines x stores t e =
    let none = nothing (leaves_of lines t.id x) (joins_of lines t.id x) e in
    (λ i. filter (λ s. not (is_among (none.0 i) s)) stores ++ increasing (filter (λ s. not (is_among (none.0 i) s)) (none.1 i)))
    ∙ append-nil (filter (λ s. not (is_among [] s)) stores)
    ∙ keeps_all stores

idle_all : (lines : List Line) (x : ℕ) (stores : List ℕ) (ts : List Top) → IdleInPlace lines x (moves lines x) stores ts
idle_all lines x stores [] = tt
idle_all lines x stores (t ∷ ts) = (idle lines x stores t, idle_all lines x (listed_after lines x stores t) ts)

decided : (header : Header) (lines : List Line) (x : ℕ) → AreDecidedInOrder header lines x (moves lines x) (serial_tops lines)
decided header lines x = record { order = refl; idle = idle_all lines x (first_stores header x) (serial_tops lines) }

from_none : (n : ℕ) → n ≡ 0 + n
from_none n = omega arith

-- so the entry is that after the tops that did
pub entry_is : (header : Header) (lines : List Line) (x : ℕ) (first : List ℕ) (ts : List Top) (e : EntryState) →
    first ≡ first_stores header x → ts ≡ filter (moves lines x) (serial_tops lines)
    → IsFolded lines x first ts e → IsEntry header lines x e
entry_is header lines x first ts e is are f = record {
  stores = f.stores ∙ (λ i. listed_from lines x (is i) (are i)) ∙ sym (listed_decided header lines x (moves lines x) (serial_tops lines) (decided header lines x));
  version = f.version ∙ (λ i. length (changers lines x (is i) (are i))) ∙ from_none (length (changers lines x (first_stores header x) (filter (moves lines x) (serial_tops lines)))) ∙ sym (ap (λ s. s.version) (entry_decided header none_written lines x (moves lines x) (serial_tops lines) (decided header lines x)));
  writer = f.writer ∙ (λ i. changer_from (acts lines) nobody (changers lines x (is i) (are i))) ∙ sym (ap (λ s. s.writer) (entry_decided header none_written lines x (moves lines x) (serial_tops lines) (decided header lines x)));
}

-- One top more.

few_changers : (lines : List Line) (x : ℕ) (first : List ℕ) (ts : List Top) → length (changers lines x first ts) ≤ length ts
few_changers lines x first [] = omega arith
few_changers lines x first (t ∷ ts) =
    by (same_list (listed_after lines x first t) first) (few_changers lines x first ts) (few_changers lines x (listed_after lines x first t) ts)
  where
    by : (b : Bool) → length (changers lines x first ts) ≤ length ts →
        length (changers lines x (listed_after lines x first t) ts) ≤ length ts
        → length (cond b (changers lines x first ts) (t ∷ changers lines x (listed_after lines x first t) ts)) ≤ length (t ∷ ts)
    by true stays moved = omega (arith, stays)
    by false stays moved = omega (arith, moved)

pub version_few : (lines : List Line) (x : ℕ) (first : List ℕ) (ts : List Top) (e : EntryState) → IsFolded lines x first ts e →
    e.version ≤ length ts
version_few lines x first ts e f = let few = few_changers lines x first ts in let is = f.version in omega (arith, few, is)

pub step_more : (lines : List Line) (x : ℕ) (first : List ℕ) (ts : List Top) (t : Top) (old new : EntryState) →
    IsFolded lines x first ts old → IsStepped lines x t old new → IsFolded lines x first (ts ++ t ∷ []) new
step_more lines x first ts t old new f s = record {
  stores = s.stores ∙ ap (λ stores. listed_after lines x stores t) f.stores ∙ sym (listed_append lines x first ts t);
  version = s.version ∙ (λ i. cond (same_list (listed_after lines x (f.stores i) t) (f.stores i)) (f.version i) (f.version i + 1)) ∙ count (same_list (listed_after lines x here t) here) ∙ sym (ap length (changers_append lines x first ts (t ∷ [])));
  writer = s.writer ∙ (λ i. cond (same_list (listed_after lines x (f.stores i) t) (f.stores i)) (f.writer i) (uid_of_id (acts lines) t.id)) ∙ last (same_list (listed_after lines x here t) here) ∙ sym (ap (changer_from (acts lines) nobody) (changers_append lines x first ts (t ∷ [])));
}
  where
    here : List ℕ
    here = listed_from lines x first ts

    before : List Top
    before = changers lines x first ts

    count : (b : Bool) → cond b (length before) (length before + 1) ≡ length (before ++ cond b [] (t ∷ []))
    count true = ap length (sym (append-nil before))
    count false = sym (length-append before (t ∷ []))

    last : (b : Bool) →
        cond b (changer_from (acts lines) nobody before) (uid_of_id (acts lines) t.id) ≡ changer_from (acts lines) nobody (before ++ cond b [] (t ∷ []))
    last true = ap (changer_from (acts lines) nobody) (sym (append-nil before))
    last false = sym (last_of_append (acts lines) nobody before t)

-- what a step makes, by what is kept
pub stores_step : (lines : List Line) (c : Changes) → AreKept lines c → (x : ℕ) (stores : List ℕ) (t : Top) →
    stores_after stores (left_by c t.id x) (joined_by c t.id x) ≡ listed_after lines x stores t
stores_step lines c has x stores t = (λ i. stores_after stores (leaves_are lines c has t.id x i) (joins_are lines c has t.id x i))

-- the tops so far, with the next one
pub next_top : (rs : List Ranked) (i : ℕ) (d : Ranked) → i < length rs →
    tops_ranked (take (i + 1) rs) ≡ tops_ranked (take i rs) ++ (let r = get_or rs i d in top_called r.top) ∷ []
next_top rs i d lt = ap tops_ranked (take_more rs i d lt) ∙ map-append (λ r. top_called r.top) (take i rs) (get_or rs i d ∷ [])

pub count_tops_ranked : (rs : List Ranked) (i : ℕ) → length (tops_ranked (take i rs)) ≤ i
count_tops_ranked rs zero = omega arith
count_tops_ranked [] (suc i) = omega arith
count_tops_ranked (r ∷ rs) (suc i) = let ih = count_tops_ranked rs i in omega (arith, ih)
