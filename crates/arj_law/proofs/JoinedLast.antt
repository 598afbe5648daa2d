-- Last states, lists and entries of two journals, one behind the other.
use Rattle.arj_law.proofs.Terms
use Terms.{◌≡◌, ◌<◌, ℕ, ◌+◌, List, [], ◌∷◌, ◌++◌, length, map, filter, not, Bool, true, false, cond, ◌&&◌, ◌||◌, ◌==◌, Option, Some, None}
use Terms.{refl, sym, ◌∙◌, ap, subst, arith, length-append, append-nil, AllByRecursion, filter_map, cons_option, list_all, list_any}
use Terms.{option_map, eq-eqb, or_right, length-map, filter-append, filter_map-append, entry, Body, Line, Header, name, Act, Placed, acts}
use Terms.{chain_in, committed, has_end, path, top_in, Call, Top, committed_calls, tops, Exclusion, Inclusion, changers, entry_payload}
use Terms.{entry_state, excluded_of, exclusion_by, included, included_of, increasing, is_among, joins_by, joins_of, leaves_of, Uid}
use Terms.{changer_from}
use Terms.{listed, listed_after, listed_from, object_line, same_list, serial_tops, uid_of_id, writes_of, arrange}
use Terms.{serial_calls, serial_key, serial_less, writes_on, AreApart, AreCalled, call_behind, calls_behind, is_called, top_behind}
use Terms.{tops_behind, values_after}
use Terms.class
use Terms.body
use Rattle.arj_base.specs.{State.state_bytes, Uid.nobody, Uid.object}
use Rattle.arj_class.specs.{Forms.payload_of, Table.class_of}
use Rattle.arj_law.proofs.{Common.all_map, Common.lex_turn, Last.all_filtered, Last.any_append, Listed.changers_append, Moves.all_arrange}
use Rattle.arj_law.proofs.JoinedActs.{act_behind, acts_join, chain_over, excluded_behind, excludes_carry, included_behind, includes_carry}
use Rattle.arj_law.proofs.JoinedActs.{placed_behind, read_join, top_over}
use Rattle.arj_law.proofs.JoinedCalls.{IsLowCall, IsLowTop, acts_low, calls_low, chain_all, commits_join, commits_low, end_high, end_low}
use Rattle.arj_law.proofs.JoinedCalls.{ends_join, other_number, path_all, read_all, same_behind, top_all, tops_join, tops_low}
use Rattle.arj_law.proofs.JoinedLists.{all_over, arrange_join, arrange_over, arrange_same, filter_map_same}
use Rattle.arj_law.proofs.JoinedOrder.{across_stands, high_stands, low_stands, serial_join, stands_before, values_join}
use Rattle.arj_law.specs.Joined.{AreJoined, GoesOn, marks_after}
use Rattle.arj_start.specs.Start.{format_at}
use Rattle.arj_model.specs.{Clean.Clean, Clean.CleanFrom, Disks.Disks, Last.count_tops, Last.entry_from, Last.excluded, Last.first_values}
use Rattle.arj_model.specs.{Last.last_from, Last.last_state, Last.writer_from}
use Rattle.arj_model.specs.{Last.stores_of_line}

-- ---- tops that wrote, and the last of them

module _ (n k : ℕ) where
  abbrev later : List Call → List Call
  later = map (call_behind n k)

  no_top : (ds : List Call) (t : ℕ) → t < k → list_any (λ d. d.top == t) (later ds) ≡ false
  no_top [] t low = refl
  no_top (d ∷ ds) t low = (λ i. other_number (d.top + k) t (λ same. omega (arith, same, low)) i || no_top ds t low i)

  its_top : (ds : List Call) (t : ℕ) → list_any (λ d. d.top == (t + k)) (later ds) ≡ list_any (λ d. d.top == t) ds
  its_top [] t = refl
  its_top (d ∷ ds) t = (λ i. same_behind d.top t k i || its_top ds t i)

  count_over : (ds : List Call) → count_tops (later ds) ≡ count_tops ds
  count_over [] = refl
  count_over (d ∷ ds) = (λ i. cond (its_top ds d.top i) (count_over ds i) (count_over ds i + 1))

  count_join : (cs ds : List Call) → AllByRecursion (λ (c : Call). c.top < k) cs →
      count_tops (cs ++ later ds) ≡ count_tops cs + count_tops ds
  count_join [] ds lows = count_over ds ∙ omega arith
  count_join (c ∷ cs) ds lows =
      (λ i. cond (any_append (λ d. d.top == c.top) cs (later ds) (no_top ds c.top lows.0) i) (count_join cs ds lows.1 i)
      (count_join cs ds lows.1 i + 1))
      ∙ by (list_any (λ d. d.top == c.top) cs)
    where
      by : (b : Bool) → cond b (count_tops cs + count_tops ds) (count_tops cs + count_tops ds + 1)
          ≡ cond b (count_tops cs) (count_tops cs + 1) + count_tops ds
      by true = refl
      by false = omega arith

  writer_join : (u : Uid) (cs ds : List Call) → writer_from u (cs ++ later ds) ≡ writer_from (writer_from u cs) ds
  writer_join u [] [] = refl
  writer_join u [] (d ∷ ds) = writer_join d.writer [] ds
  writer_join u (c ∷ cs) ds = writer_join c.writer cs ds

  writes_over : (x : ℕ) (ds : List Call) → filter (writes_on x) (later ds) ≡ later (filter (writes_on x) ds)
  writes_over x [] = refl
  writes_over x (d ∷ ds) = (λ i. cond (writes_on x d) (call_behind n k d ∷ writes_over x ds i) (writes_over x ds i)) ∙ by (writes_on x d)
    where
      by : (b : Bool) → cond b (call_behind n k d ∷ later (filter (writes_on x) ds)) (later (filter (writes_on x) ds))
          ≡ later (cond b (d ∷ filter (writes_on x) ds) (filter (writes_on x) ds))
      by true = refl
      by false = refl

-- ---- Uids by numbers

no_uid : (us : List Act) (k i : ℕ) → AllByRecursion (λ (a : Act). a.id < k) us → uid_of_id us (i + k) ≡ nobody
no_uid [] k i lows = refl
no_uid (u ∷ us) k i lows =
    (λ j. cond (other_number u.id (i + k) (λ same. let low = lows.0 in omega (arith, same, low)) j) u.uid (no_uid us k i lows.1 j))

uid_high : (k : ℕ) (us vs : List Act) (i : ℕ) → AllByRecursion (λ (a : Act). a.id < k) us →
    uid_of_id (map (act_behind k) vs ++ us) (i + k) ≡ uid_of_id vs i
uid_high k us [] i lows = no_uid us k i lows
uid_high k us (v ∷ vs) i lows = (λ j. cond (same_behind v.id i k j) v.uid (uid_high k us vs i lows j))

uid_low : (k : ℕ) (us vs : List Act) (i : ℕ) → i < k → uid_of_id (map (act_behind k) vs ++ us) i ≡ uid_of_id us i
uid_low k us [] i low = refl
uid_low k us (v ∷ vs) i low = (λ j. cond (other_number (v.id + k) i (λ same. omega (arith, same, low)) j) v.uid (uid_low k us vs i low j))

-- ---- both journals

module _ (first second : List Line) (apart : AreApart first second) where
  abbrev n : ℕ
  n = length first

  abbrev k : ℕ
  k = length (acts first)

  abbrev both : List Line
  both = first ++ second

  low_numbers : AllByRecursion (λ (a : Act). a.id < k) (acts first)
  low_numbers = acts_low first

  -- ---- exclusions

  excluder : (us : List Act) (b : Body) (e : Exclusion) → AllByRecursion (λ (a : Act). a.id < k) us → excluded_of us b ≡ Some e → e.top < k
  excluder us (body.Excluded l x m) e lows is = by (top_in (path us (name l))) refl is
    where
      by : (o : Option Act) → top_in (path us (name l)) ≡ o → exclusion_by x m o ≡ Some e → e.top < k
      by None at g = absurd (cc g)
      by (Some top) at g = let same : record { top = top.id; x = x; node = m } ≡ e = cc g in subst (λ (z : Exclusion). z.top < k) same
          (top_all (λ a. a.id < k) (path us (name l)) top (path_all (λ a. a.id < k) us (name l) lows) at)
  excluder us b e lows is = absurd (cc is)

  excluded_low : AllByRecursion (λ (e : Placed Exclusion). e.it.top < k) (excluded first)
  excluded_low = all_map (λ (e : Placed Exclusion). (e.at < 0 + n) × (e.it.top < k)) (λ e. e.it.top < k) (λ e h. h.1) (excluded first)
      (read_all (λ a. a.id < k) (λ e. e.top < k) excluded_of excluder [] 0 first low_numbers)

  abbrev of_top : ℕ → ℕ → Placed Exclusion → Bool
  of_top id x e = (e.it.top == id) && (e.it.x == x)

  abbrev nodes : List (Placed Exclusion) → List ℕ
  nodes = map (λ e. e.it.node)

  none_high : (x id : ℕ) (es : List (Placed Exclusion)) → id < k → filter (of_top id x) (map (placed_behind n (excluded_behind k)) es) ≡ []
  none_high x id [] low = refl
  none_high x id (e ∷ es) low = (λ i. cond (other_number (e.it.top + k) id (λ same. omega (arith, same, low)) i && (e.it.x == x))
      (placed_behind n (excluded_behind k) e ∷ none_high x id es low i) (none_high x id es low i))

  none_low : (x id : ℕ) (es : List (Placed Exclusion)) → AllByRecursion (λ (e : Placed Exclusion). e.it.top < k) es →
      filter (of_top (id + k) x) es ≡ []
  none_low x id [] lows = refl
  none_low x id (e ∷ es) lows = (λ i. cond (other_number e.it.top (id + k) (λ same. let low = lows.0 in
      omega (arith, same, low)) i && (e.it.x == x)) (e ∷ none_low x id es lows.1 i) (none_low x id es lows.1 i))

  its_nodes : (x id : ℕ) (es : List (Placed Exclusion)) →
      nodes (filter (of_top (id + k) x) (map (placed_behind n (excluded_behind k)) es)) ≡ nodes (filter (of_top id x) es)
  its_nodes x id [] = refl
  its_nodes x id (e ∷ es) = (λ i. nodes (cond (same_behind e.it.top id k i && (e.it.x == x))
      (placed_behind n (excluded_behind k) e ∷ filter (of_top (id + k) x) (map (placed_behind n (excluded_behind k)) es))
      (filter (of_top (id + k) x) (map (placed_behind n (excluded_behind k)) es)))) ∙ by (of_top id x e) (its_nodes x id es)
    where
      by : (b : Bool) → nodes (filter (of_top (id + k) x) (map (placed_behind n (excluded_behind k)) es)) ≡ nodes (filter (of_top id x) es)
          → nodes (cond b (placed_behind n (excluded_behind k) e ∷ filter (of_top (id + k) x)
          (map (placed_behind n (excluded_behind k)) es)) (filter (of_top (id + k) x) (map (placed_behind n (excluded_behind k)) es)))
          ≡ nodes (cond b (e ∷ filter (of_top id x) es) (filter (of_top id x) es))
      by true ih = ap (λ ns. e.it.node ∷ ns) ih
      by false ih = ih

  excluded_join : excluded both ≡ excluded first ++ map (placed_behind n (excluded_behind k)) (excluded second)
  excluded_join = read_join excluded_of (excluded_behind k) first second (excludes_carry (acts first)) apart.labels

  leaves_low : (id x : ℕ) → id < k → leaves_of both id x ≡ leaves_of first id x
  leaves_low id x low =
      (λ i. nodes (filter (of_top id x) (excluded_join i)))
      ∙ ap nodes (filter-append (of_top id x) (excluded first) (map (placed_behind n (excluded_behind k)) (excluded second)))
      ∙ (λ i. nodes (filter (of_top id x) (excluded first) ++ none_high x id (excluded second) low i))
      ∙ ap nodes (append-nil (filter (of_top id x) (excluded first)))

  leaves_high : (id x : ℕ) → leaves_of both (id + k) x ≡ leaves_of second id x
  leaves_high id x =
      (λ i. nodes (filter (of_top (id + k) x) (excluded_join i)))
      ∙ ap nodes (filter-append (of_top (id + k) x) (excluded first) (map (placed_behind n (excluded_behind k)) (excluded second)))
      ∙ (λ i. nodes (none_low x id (excluded first) excluded_low i
      ++ filter (of_top (id + k) x) (map (placed_behind n (excluded_behind k)) (excluded second)))) ∙ its_nodes x id (excluded second)

  -- ---- includes

  includer : (us : List Act) (b : Body) (i : Inclusion) → AllByRecursion (λ (a : Act). a.id < k) us → included_of us b ≡ Some i →
      AllByRecursion (λ (a : Act). a.id < k) i.path
  includer us (body.Includes l x m) i lows is = let same : record { path = path us (name l); x = x; node = m } ≡ i = cc is in
      subst (λ (z : Inclusion). AllByRecursion (λ (a : Act). a.id < k) z.path) same (path_all (λ a. a.id < k) us (name l) lows)
  includer us b i lows is = absurd (cc is)

  included_low : AllByRecursion (λ (i : Placed Inclusion). AllByRecursion (λ (a : Act). a.id < k) i.it.path) (included first)
  included_low = all_map (λ (i : Placed Inclusion). (i.at < 0 + n) × AllByRecursion (λ (a : Act). a.id < k) i.it.path)
      (λ i. AllByRecursion (λ (a : Act). a.id < k) i.it.path) (λ i h. h.1) (included first)
      (read_all (λ a. a.id < k) (λ i. AllByRecursion (λ (a : Act). a.id < k) i.path) included_of includer [] 0 first low_numbers)

  abbrev ends : List (Placed ℕ)
  ends = ends_join n k (committed first) (committed second)

  all_low : (us : List Act) → AllByRecursion (λ (a : Act). a.id < k) us →
      list_all (λ a. has_end ends a.id) us ≡ list_all (λ a. has_end (committed first) a.id) us
  all_low [] lows = refl
  all_low (u ∷ us) lows = (λ i. end_low n k (committed first) (committed second) u.id lows.0 i && all_low us lows.1 i)

  all_high : (us : List Act) →
      list_all (λ a. has_end ends a.id) (map (act_behind k) us) ≡ list_all (λ a. has_end (committed second) a.id) us
  all_high [] = refl
  all_high (u ∷ us) = (λ i. end_high n k (committed first) (committed second) u.id (commits_low first second apart) i && all_high us i)

  abbrev join_in : List (Placed ℕ) → ℕ → ℕ → Placed Inclusion → Option ℕ
  join_in es id x i = joins_by es id x i (top_in i.it.path)

  abbrev moved : Placed Inclusion → Placed Inclusion
  moved = placed_behind n (included_behind k)

  join_low : (id x : ℕ) (i : Placed Inclusion) → AllByRecursion (λ (a : Act). a.id < k) i.it.path →
      join_in ends id x i ≡ join_in (committed first) id x i
  join_low id x i lows = by (top_in i.it.path)
    where
      by : (o : Option Act) → joins_by ends id x i o ≡ joins_by (committed first) id x i o
      by None = refl
      by (Some top) = (λ j. cond ((top.id == id)
          && ((i.it.x == x) && all_low (chain_in i.it.path) (chain_all (λ a. a.id < k) i.it.path lows) j)) (Some i.it.node) None)

  -- of the other journal's includes a top has none
  join_none_high : (id x : ℕ) (i : Placed Inclusion) → id < k → join_in ends id x (moved i) ≡ None
  join_none_high id x i low = ap (joins_by ends id x (moved i)) (top_over k i.it.path) ∙ by (top_in i.it.path)
    where
      by : (o : Option Act) → joins_by ends id x (moved i) (option_map (act_behind k) o) ≡ None
      by None = refl
      by (Some top) = (λ j. cond (other_number (top.id + k) id (λ same. omega (arith, same, low)) j
          && ((i.it.x == x) && list_all (λ a. has_end ends a.id) (chain_in (map (act_behind k) i.it.path)))) (Some i.it.node) None)

  join_none_low : (id x : ℕ) (i : Placed Inclusion) → AllByRecursion (λ (a : Act). a.id < k) i.it.path → join_in ends (id + k) x i ≡ None
  join_none_low id x i lows = by (top_in i.it.path) refl
    where
      by : (o : Option Act) → top_in i.it.path ≡ o → joins_by ends (id + k) x i o ≡ None
      by None at = refl
      by (Some top) at = let low : top.id < k = top_all (λ a. a.id < k) i.it.path top lows at in
          (λ j. cond (other_number top.id (id + k) (λ same. omega (arith, same, low)) j
          && ((i.it.x == x) && list_all (λ a. has_end ends a.id) (chain_in i.it.path))) (Some i.it.node) None)

  join_high : (id x : ℕ) (i : Placed Inclusion) → join_in ends (id + k) x (moved i) ≡ join_in (committed second) id x i
  join_high id x i = ap (joins_by ends (id + k) x (moved i)) (top_over k i.it.path) ∙ by (top_in i.it.path)
    where
      by : (o : Option Act) → joins_by ends (id + k) x (moved i) (option_map (act_behind k) o) ≡ joins_by (committed second) id x i o
      by None = refl
      by (Some top) = (λ j. cond (same_behind top.id id k j && ((i.it.x == x)
          && (ap (list_all (λ a. has_end ends a.id)) (chain_over k i.it.path) ∙ all_high (chain_in i.it.path)) j)) (Some i.it.node) None)

  none_of : {A B : Type 0} (f : A → Option B) (P : A → Type 0) → ((a : A) → P a → f a ≡ None) → (xs : List A) → AllByRecursion P xs →
      filter_map f xs ≡ []
  none_of f P h [] ps = refl
  none_of f P h (x ∷ xs) ps = (λ i. cons_option (h x ps.0 i) (none_of f P h xs ps.1 i))

  over_moved : {B : Type 0} (f g : Placed Inclusion → Option B) → ((i : Placed Inclusion) → f (moved i) ≡ g i) →
      (xs : List (Placed Inclusion)) → filter_map f (map moved xs) ≡ filter_map g xs
  over_moved f g h [] = refl
  over_moved f g h (x ∷ xs) = (λ i. cons_option (h x i) (over_moved f g h xs i))

  joins_both : (id x : ℕ) →
      joins_of both id x ≡ filter_map (join_in ends id x) (included first) ++ filter_map (join_in ends id x) (map moved (included second))
  joins_both id x =
      (λ i. filter_map (join_in (commits_join first second apart i) id x)
      (read_join included_of (included_behind k) first second (includes_carry (acts first)) apart.labels i))
      ∙ filter_map-append (join_in ends id x) (included first) (map moved (included second))

  joins_low : (id x : ℕ) → id < k → joins_of both id x ≡ joins_of first id x
  joins_low id x low =
      joins_both id x
      ∙ (λ i. filter_map_same (λ (j : Placed Inclusion). AllByRecursion (λ (a : Act). a.id < k) j.it.path) (join_in ends id x)
      (join_in (committed first) id x) (join_low id x) (included first) included_low i
      ++ (over_moved (join_in ends id x) (λ j. None) (λ j. join_none_high id x j low) (included second) ∙ nothing (included second)) i)
      ∙ append-nil (joins_of first id x)
    where
      nothing : (xs : List (Placed Inclusion)) → filter_map {Y = ℕ} (λ j. None) xs ≡ []
      nothing [] = refl
      nothing (y ∷ ys) = nothing ys

  joins_high : (id x : ℕ) → joins_of both (id + k) x ≡ joins_of second id x
  joins_high id x =
      joins_both (id + k) x
      ∙ (λ i. none_of (join_in ends (id + k) x) (λ (j : Placed Inclusion). AllByRecursion (λ (a : Act). a.id < k) j.it.path)
      (join_none_low id x) (included first) included_low i
      ++ over_moved (join_in ends (id + k) x) (join_in (committed second) id x) (join_high id x) (included second) i)

  -- ---- lists

  after_low : (x : ℕ) (stores : List ℕ) (t : Top) → t.id < k → listed_after both x stores t ≡ listed_after first x stores t
  after_low x stores t low =
      (λ i. filter (λ s. not (is_among (leaves_low t.id x low i) s)) stores
      ++ increasing (filter (λ s. not (is_among (leaves_low t.id x low i) s)) (joins_low t.id x low i)))

  after_high : (x : ℕ) (stores : List ℕ) (t : Top) → listed_after both x stores (top_behind n k t) ≡ listed_after second x stores t
  after_high x stores t =
      (λ i. filter (λ s. not (is_among (leaves_high t.id x i) s)) stores
      ++ increasing (filter (λ s. not (is_among (leaves_high t.id x i) s)) (joins_high t.id x i)))

  abbrev Low : Top → Type 0
  Low = IsLowTop first second apart

  from_low : (x : ℕ) (stores : List ℕ) (ts : List Top) → AllByRecursion Low ts →
      listed_from both x stores ts ≡ listed_from first x stores ts
  from_low x stores [] lows = refl
  from_low x stores (t ∷ ts) lows =
      from_low x (listed_after both x stores t) ts lows.1 ∙ ap (λ l. listed_from first x l ts) (after_low x stores t lows.0.0)

  from_high : (x : ℕ) (stores : List ℕ) (ts : List Top) → listed_from both x stores (tops_behind first ts) ≡ listed_from second x stores ts
  from_high x stores [] = refl
  from_high x stores (t ∷ ts) =
      from_high x (listed_after both x stores (top_behind n k t)) ts ∙ ap (λ l. listed_from second x l ts) (after_high x stores t)

  changers_low : (x : ℕ) (stores : List ℕ) (ts : List Top) → AllByRecursion Low ts → changers both x stores ts ≡ changers first x stores ts
  changers_low x stores [] lows = refl
  changers_low x stores (t ∷ ts) lows =
      (λ i. cond (same_list (after_low x stores t lows.0.0 i) stores) (changers_low x stores ts lows.1 i)
      (t ∷ changers_low x (listed_after both x stores t) ts lows.1 i))
      ∙ (λ i. cond (same_list (listed_after first x stores t) stores) (changers first x stores ts)
      (t ∷ changers first x (after_low x stores t lows.0.0 i) ts))

  changers_high : (x : ℕ) (stores : List ℕ) (ts : List Top) →
      changers both x stores (tops_behind first ts) ≡ tops_behind first (changers second x stores ts)
  changers_high x stores [] = refl
  changers_high x stores (t ∷ ts) =
      (λ i. cond (same_list (after_high x stores t i) stores) (changers_high x stores ts i)
      (top_behind n k t ∷ changers_high x (listed_after both x stores (top_behind n k t)) ts i))
      ∙ (λ i. cond (same_list (listed_after second x stores t) stores) (tops_behind first (changers second x stores ts))
      (top_behind n k t ∷ tops_behind first (changers second x (after_high x stores t i) ts)))
      ∙ by (same_list (listed_after second x stores t) stores)
    where
      by : (b : Bool) → cond b (tops_behind first (changers second x stores ts))
          (top_behind n k t ∷ tops_behind first (changers second x (listed_after second x stores t) ts))
          ≡ tops_behind first (cond b (changers second x stores ts) (t ∷ changers second x (listed_after second x stores t) ts))
      by true = refl
      by false = refl

  listed_twice : (x : ℕ) (stores : List ℕ) (ts us : List Top) →
      listed_from both x stores (ts ++ us) ≡ listed_from both x (listed_from both x stores ts) us
  listed_twice x stores [] us = refl
  listed_twice x stores (t ∷ ts) us = listed_twice x (listed_after both x stores t) ts us

  -- ---- the serial order of tops

  top_lows : AllByRecursion Low (tops first)
  top_lows = tops_low first second apart

  -- each top is among the tops
  itself : (ts : List Top) → AllByRecursion (λ (t : Top). is_called ts t.id ≡ true) ts
  itself [] = tt
  itself (t ∷ ts) = (
    ap (λ b. b || is_called ts t.id) (eq-eqb t.id t.id refl),
    all_map (λ (u : Top). is_called ts u.id ≡ true) (λ u. is_called (t ∷ ts) u.id ≡ true)
        (λ u on. or_right (t.id == u.id) (is_called ts u.id) on) ts (itself ts),
  )

  abbrev all_tops : List Top
  all_tops = tops first ++ tops_behind first (tops second)

  abbrev less : List Top → Top → Top → Bool
  less ts t u = stands_before n k ts t.id u.id

  abbrev OfSecond : Top → Type 0
  OfSecond t = is_called (tops second) t.id ≡ true

  across_tops : 0 < n → (t u : Top) → Low t → OfSecond u → less all_tops t (top_behind n k u) ≡ true
  across_tops some t u low on = across_stands n k (tops first) (tops second) t.id u.id top_lows some low.0 on

  pub serial_tops_join : serial_tops both ≡ serial_tops first ++ tops_behind first (serial_tops second)
  serial_tops_join =
      (λ i. arrange (less (tops_join first second apart i)) (tops_join first second apart i))
      ∙ arrange_join (less all_tops) (tops first) (tops_behind first (tops second))
      (all_map Low (λ t. AllByRecursion (λ u. less all_tops u t ≡ false) (tops_behind first (tops second))) none (tops first) top_lows)
      ∙ (λ i. arrange_same Low (less all_tops) (less (tops first))
      (λ t u a b. low_stands n k (tops first) (tops second) t.id u.id top_lows a.0 b.0) (tops first) top_lows i
      ++ arrange_over OfSecond (top_behind n k) (less all_tops) (less (tops second))
      (λ t u a b. high_stands n k (tops first) (tops second) t.id u.id top_lows a b) (tops second) (itself (tops second)) i)
    where
      none : (t : Top) → Low t → AllByRecursion (λ u. less all_tops u t ≡ false) (tops_behind first (tops second))
      none t low =
          all_over OfSecond (λ u. less all_tops u t ≡ false) (top_behind n k) (λ u on. lex_turn (serial_key all_tops t.id) (serial_key
          all_tops (u.id + k)) (across_tops (let at = low.2 in omega (arith, at)) t u low on)) (tops second) (itself (tops second))

  serial_lows : AllByRecursion Low (serial_tops first)
  serial_lows = all_arrange Low (less (tops first)) (tops first) top_lows

  -- the list goes on from the one that the first journal left
  pub lists_join : (stores : List ℕ) (x : ℕ) → listed_from both x stores (serial_tops both)
      ≡ listed_from second x (listed_from first x stores (serial_tops first)) (serial_tops second)
  lists_join stores x =
      ap (listed_from both x stores) serial_tops_join ∙ listed_twice x stores (serial_tops first) (tops_behind first (serial_tops second))
      ∙ ap (λ l. listed_from both x l (tops_behind first (serial_tops second))) (from_low x stores (serial_tops first) serial_lows)
      ∙ from_high x (listed_from first x stores (serial_tops first)) (serial_tops second)

  -- and so do those that changed it
  pub changers_join : (stores : List ℕ) (x : ℕ) → changers both x stores (serial_tops both) ≡ changers first x stores (serial_tops first)
      ++ tops_behind first (changers second x (listed_from first x stores (serial_tops first)) (serial_tops second))
  changers_join stores x =
      ap (changers both x stores) serial_tops_join
      ∙ changers_append both x stores (serial_tops first) (tops_behind first (serial_tops second))
      ∙ (λ i. changers_low x stores (serial_tops first) serial_lows i
      ++ changers both x (from_low x stores (serial_tops first) serial_lows i) (tops_behind first (serial_tops second)))
      ∙ ap (λ ts. changers first x stores (serial_tops first) ++ ts)
      (changers_high x (listed_from first x stores (serial_tops first)) (serial_tops second))

  -- ---- who changed it last

  pub uid_first : (i : ℕ) → i < k → uid_of_id (acts both) i ≡ uid_of_id (acts first) i
  uid_first i low = ap (λ us. uid_of_id us i) (acts_join first second) ∙ uid_low k (acts first) (acts second) i low

  pub uid_second : (i : ℕ) → uid_of_id (acts both) (i + k) ≡ uid_of_id (acts second) i
  uid_second i = ap (λ us. uid_of_id us (i + k)) (acts_join first second) ∙ uid_high k (acts first) (acts second) i low_numbers

  last_both : (u : Uid) (ts us : List Top) → AllByRecursion Low ts →
      changer_from (acts both) u (ts ++ tops_behind first us) ≡ changer_from (acts second) (changer_from (acts first) u ts) us
  last_both u [] [] lows = refl
  last_both u [] (v ∷ us) lows =
      last_both (uid_of_id (acts both) (v.id + k)) [] us tt ∙ ap (λ w. changer_from (acts second) w us) (uid_second v.id)
  last_both u (t ∷ ts) us lows = last_both (uid_of_id (acts both) t.id) ts us lows.1
      ∙ ap (λ w. changer_from (acts second) (changer_from (acts first) w ts) us) (uid_first t.id lows.0.0)

  all_changers : (lines : List Line) (x : ℕ) (stores : List ℕ) (ts : List Top) → AllByRecursion Low ts →
      AllByRecursion Low (changers lines x stores ts)
  all_changers lines x stores [] lows = tt
  all_changers lines x stores (t ∷ ts) lows = by (all_changers lines x stores ts lows.1)
      (all_changers lines x (listed_after lines x stores t) ts lows.1) (same_list (listed_after lines x stores t) stores)
    where
      by : AllByRecursion Low (changers lines x stores ts) → AllByRecursion Low (changers lines x (listed_after lines x stores t) ts) →
          (b : Bool) → AllByRecursion Low (cond b (changers lines x stores ts) (t ∷ changers lines x (listed_after lines x stores t) ts))
      by same other true = same
      by same other false = (lows.0, other)

  -- ---- last states and entries

  module _ (called : AreCalled second) where
    pub writes_join : (x : ℕ) → writes_of both x ≡ writes_of first x ++ calls_behind first (writes_of second x)
    writes_join x =
        ap (filter (writes_on x)) (serial_join first second apart called)
        ∙ filter-append (writes_on x) (serial_calls first) (calls_behind first (serial_calls second))
        ∙ ap (λ ws. writes_of first x ++ ws) (writes_over n k x (serial_calls second))

    abbrev LowTop : Call → Type 0
    LowTop c = c.top < k

    write_lows : (x : ℕ) → AllByRecursion LowTop (writes_of first x)
    write_lows x = all_filtered LowTop (writes_on x) (serial_calls first) (all_arrange LowTop (serial_less (tops first)) (committed_calls
        first) (all_map (IsLowCall first second apart) LowTop (λ c l. l.1) (committed_calls first) (calls_low first second apart)))

    module _ (header next : Header) (goes : GoesOn header first next) (x : ℕ) where
      values_are : first_values next ≡ values_after (first_values header) first
      values_are = λ i y. goes.values y i

      pub last_join : last_state header both x ≡ last_from next (marks_after header first) second x
      last_join = (λ i. record {
        uid = object x;
        class = class_of (value i);
        version = version i;
        writer = (ap (writer_from nobody) (writes_join x) ∙ writer_join n k nobody (writes_of first x) (writes_of second x)) i;
        payload = payload_of (value i);
        format = format_at (sym goes.format i) (version i);
      })
        where
          sum : (a b : ℕ) → 0 + (a + b) ≡ 0 + a + b
          sum a b = omega arith

          version : 0 + count_tops (writes_of both x) ≡ 0 + count_tops (writes_of first x) + count_tops (writes_of second x)
          version = ap (λ m. 0 + m) (ap count_tops (writes_join x) ∙ count_join n k (writes_of first x) (writes_of second x) (write_lows x))
              ∙ sum (count_tops (writes_of first x)) (count_tops (writes_of second x))

          value : values_after (first_values header) both x ≡ values_after (first_values next) second x
          value = ap (λ v. v x) (values_join first second apart called (first_values header))
              ∙ ap (λ v. values_after v second x) (sym values_are)

    module _ (header next : Header) (goes : GoesOn header first next) (x : ℕ) where
      stores_are : stores_of_line (object_line next x) ≡ listed_from first x (stores_of_line (object_line header x)) (serial_tops first)
      stores_are = goes.stores x

      pub listed_join : listed header both x ≡ listed next second x
      listed_join =
          lists_join (stores_of_line (object_line header x)) x ∙ ap (λ l. listed_from second x l (serial_tops second)) (sym stores_are)

      pub entry_join : entry_state header both x ≡ entry_from next (marks_after header first) second x
      entry_join = (λ i. record {
        uid = entry x;
        class = class.Entry;
        version = version i;
        writer = (ap (changer_from (acts both) nobody) changed
            ∙ last_both nobody old new (all_changers first x (stores_of_line (object_line header x)) (serial_tops first) serial_lows)) i;
        payload = entry_payload (sym (goes.servers x) i) (listed_join i);
        format = format_at (sym goes.format i) (version i);
      })
        where
          sum : (a b : ℕ) → 0 + (a + b) ≡ 0 + a + b
          sum a b = omega arith

          old : List Top
          old = changers first x (stores_of_line (object_line header x)) (serial_tops first)

          new : List Top
          new = changers second x (stores_of_line (object_line next x)) (serial_tops second)

          changed : changers both x (stores_of_line (object_line header x)) (serial_tops both) ≡ old ++ tops_behind first new
          changed = changers_join (stores_of_line (object_line header x)) x
              ∙ ap (λ l. old ++ tops_behind first (changers second x l (serial_tops second))) (sym stores_are)

          version : 0 + length (changers both x (stores_of_line (object_line header x)) (serial_tops both)) ≡ 0 + length old + length new
          version = ap (λ m. 0 + m) (ap length changed ∙ length-append old (tops_behind first new)
              ∙ ap (λ m. length old + m) (length-map new (top_behind n k))) ∙ sum (length old) (length new)

-- ---- disks

pub clean_join : (header next : Header) (first second : List Line) → AreJoined header first next second → (disks : Disks) →
    CleanFrom next (marks_after header first) second disks → Clean header (first ++ second) disks
clean_join header next first second j disks clean = record {
  entries = λ x there free. clean.entries x (j.goes.objects x ∙ there) free
      ∙ ap (λ s. Some (state_bytes s)) (sym (entry_join first second j.apart j.called header next j.goes x));
  stores = λ x s on free clear. clean.stores x s (ap (λ l. is_among l s) (sym (listed_join first second j.apart j.called header next j.goes
      x)) ∙ on) free clear ∙ ap (λ z. Some (state_bytes z)) (sym (last_join first second j.apart j.called header next j.goes x));
}

pub clean_back : (header next : Header) (first second : List Line) → AreJoined header first next second → (disks : Disks) →
    Clean header (first ++ second) disks → CleanFrom next (marks_after header first) second disks
clean_back header next first second j disks clean = record {
  entries = λ x there free. clean.entries x (sym (j.goes.objects x) ∙ there) free
      ∙ ap (λ s. Some (state_bytes s)) (entry_join first second j.apart j.called header next j.goes x);
  stores = λ x s on free clear. clean.stores x s (ap (λ l. is_among l s) (listed_join first second j.apart j.called header next j.goes x)
      ∙ on) free clear ∙ ap (λ z. Some (state_bytes z)) (last_join first second j.apart j.called header next j.goes x);
}
