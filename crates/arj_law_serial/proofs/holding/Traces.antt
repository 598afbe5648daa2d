-- What a node's effects leave at each of their lines: lines of the node alone, among which some kind isn't, and locks on an object or on an
-- entry.
use Rattle.arj_law_parts.proofs.Words
use Words.{◌≡◌, ◌⊎◌, ◌≤◌, ◌∙◌, ◌==◌, ◌++◌, ◌&&◌, ℕ, zero, suc, List, [], ◌∷◌, Bool, true, false, Option, Some, None, length, take}
use Words.{slice_get, refl, sym, ap, subst, inl, inr, arith, ⊎_elim, append_assoc, append-nil, length-append, ⊤, if◌then◌else◌}
use Words.{AllByRecursion, list_all, and_parts, map-append, Row, Body, Line, Part, Uid, Disk, Do, Effect, Say, Send, stopped, worked}
use Words.{rows_by, Parts, AreAll, is_coord_effect, Node, numbered, coord_quiet, Post, Seen}
use Words.body
use Rattle.arj_law_serial.proofs.Terms
use Terms.{Act, acts, table, AreQuiet, is_quiet_line, posted, said, Walks, halted, IsOfPart, holders_in, is_steady, rows_on, up_of, SayOf}
use Terms.{memory_of}
use Rattle.arj_law_serial.proofs.holding
use holding.{Prefixes.Along, Says.All, Says.says, Sorts.is_of}
use holding.Lines.{acts_on, itself, other_tables, own_line, quiet_acts, quiet_of, quiet_table}
use holding.Marks.{Guard, NoneBetween, all_taken, got_behind, guard_less, guard_one, longer}
use Rattle.arj_law_serial.proofs.tables.Effects.{acts_stay}

-- ---- lists

take_none : {A : Type 0} (j : ℕ) → take {A = A} j [] ≡ []
take_none zero = refl
take_none (suc j) = refl

take_whole : {A : Type 0} (xs : List A) → take (length xs) xs ≡ xs
take_whole [] = refl
take_whole (x ∷ xs) = ap (λ ys. x ∷ ys) (take_whole xs)

-- the first of two lists together are the first of the one, or that one and the first of the other
take_both : {A : Type 0} (j : ℕ) (xs ys : List A) →
    ((i : ℕ) × (take j (xs ++ ys) ≡ take i xs)) ⊎ ((i : ℕ) × (take j (xs ++ ys) ≡ xs ++ take i ys))
take_both j [] ys = inr (j, refl)
take_both zero (x ∷ xs) ys = inl (0, refl)
take_both {A} (suc j) (x ∷ xs) ys = ⊎_elim {C = ((i : ℕ) × (take (suc j) (x ∷ (xs ++ ys)) ≡ take i (x ∷ xs)))
    ⊎ ((i : ℕ) × (take (suc j) (x ∷ (xs ++ ys)) ≡ x ∷ (xs ++ take i ys)))}
    (λ (f : (i : ℕ) × (take j (xs ++ ys) ≡ take i xs)). inl (suc f.0, ap (λ (zs : List A). x ∷ zs) f.1))
    (λ (f : (i : ℕ) × (take j (xs ++ ys) ≡ xs ++ take i ys)). inr (f.0, ap (λ (zs : List A). x ∷ zs) f.1))
    (take_both j xs ys)

all_both : {A : Type 0} (P : A → Type 0) (xs ys : List A) → AllByRecursion P xs → AllByRecursion P ys → AllByRecursion P (xs ++ ys)
all_both P [] ys a b = b
all_both P (x ∷ xs) ys a b = (a.0, all_both P xs ys a.1 b)

list_both : (test : Body → Bool) (xs ys : List Body) → list_all test xs ≡ true → list_all test ys ≡ true → list_all test (xs ++ ys) ≡ true
list_both test [] ys a b = b
list_both test (x ∷ xs) ys a b = let q = and_parts (test x) (list_all test xs) a in λ i. q.0 i && list_both test xs ys q.1 b i

one_all : (test : Body → Bool) (e : ℕ) (bs : List Body) → AllByRecursion (λ (b : Body). test b ≡ false) bs → (i : ℕ) (l : Line) →
    slice_get (numbered e bs) i ≡ Some l → test l.body ≡ false
one_all test e [] all i l is = absurd (cc is)
one_all test e (b ∷ bs) all zero l is =
    let same : record { event = e; body = b } ≡ l = cc is in
    ap (λ (z : Line). test z.body) (sym same) ∙ all.0
one_all test e (b ∷ bs) all (suc i) l is = one_all test e bs all.1 i l is

-- none of the new lines passes
pub none_said : (test : Body → Bool) (e : ℕ) (bs : List Body) → AllByRecursion (λ (b : Body). test b ≡ false) bs →
    (ls : List Line) (a b : ℕ) → length ls ≤ a → NoneBetween test (ls ++ numbered e bs) a b
none_said test e bs all ls a b le j l from less is =
    let g = got_behind ls (numbered e bs) j l (omega (arith, le, from)) is in
    one_all test e bs all g.0 l g.1

along_first : (h : _) (n : ℕ) (p : Part) (o : Uid) (Ok : List Row → Type 0) (es : List Effect) (rows : List Row) →
    Along h n p o Ok es rows → Ok rows
along_first h n p o Ok [] rows a = a
along_first h n p o Ok (Say b ∷ es) rows a = a.0
along_first h n p o Ok (Send to m ∷ es) rows a = along_first h n p o Ok es rows a
along_first h n p o Ok (Do w ∷ es) rows a = along_first h n p o Ok es rows a

-- ---- the rest of a node's effects

module _ (e : ℕ) where
  -- so it is behind each line to come
  abbrev pub Rem : (List Line → Type 0) → List Effect → List Line → Type 0
  Rem P [] ls = ⊤
  Rem P (Say b ∷ es) ls = P (ls ++ numbered e (b ∷ [])) × Rem P es (ls ++ numbered e (b ∷ []))
  Rem P (Send to m ∷ es) ls = (more : List Body) → AreQuiet more → Rem P es (ls ++ numbered e more)
  Rem P (Do w ∷ es) ls = Rem P es ls

  pub rem_both : (P Q : List Line → Type 0) (outs : List Effect) (ls : List Line) → Rem P outs ls → Rem Q outs ls →
      Rem (λ ms. P ms × Q ms) outs ls
  rem_both P Q [] ls a b = tt
  rem_both P Q (Say l ∷ es) ls a b = ((a.0, b.0), rem_both P Q es (ls ++ numbered e (l ∷ [])) a.1 b.1)
  rem_both P Q (Send to m ∷ es) ls a b = λ more quiet. rem_both P Q es (ls ++ numbered e more) (a more quiet) (b more quiet)
  rem_both P Q (Do w ∷ es) ls a b = rem_both P Q es ls a b

module _ (first event n : ℕ) (o : Uid) (Ok : List Row → Type 0) where
  -- where no node starts in the event, the rows on this in the table of node n are such
  abbrev pub Rows : List Line → Type 0
  Rows ls = Guard event first ls → Ok (rows_on o (table n ls))

  module _ (e : ℕ) where
    more_long : (ls ms : List Line) → first ≤ length ls → first ≤ length (ls ++ ms)
    more_long ls ms le = longer ls ms first le

    -- they are by lines at which nobody looks
    pub rows_quiet : (ls : List Line) (bs : List Body) → AreQuiet bs → first ≤ length ls → Rows ls → Rows (ls ++ numbered e bs)
    rows_quiet ls bs quiet le rows g =
        subst (λ t. Ok (rows_on o t)) (sym (quiet_table n e bs quiet ls)) (rows (guard_less event first e bs ls le g))

    -- and by those of another node
    rows_other : (k : ℕ) → (n == k) ≡ false → (ls : List Line) (bs : List Body) → list_all (is_of k) bs ≡ true → first ≤ length ls →
        Rows ls → Rows (ls ++ numbered e bs)
    rows_other k off ls bs own le rows g =
        subst (λ t. Ok (rows_on o t)) (sym (other_tables n k e off bs own ls)) (rows (guard_less event first e bs ls le g))

    pub rem_other : (k : ℕ) → (n == k) ≡ false → (outs : List Effect) (ls : List Line) → All (is_of k) outs → first ≤ length ls → Rows ls →
        Rem e Rows outs ls
    rem_other k off [] ls own long rows = tt
    rem_other k off (Do w ∷ es) ls own long rows = rem_other k off es ls own long rows
    rem_other k off (Send to m ∷ es) ls own long rows = λ more quiet.
        rem_other k off es (ls ++ numbered e more) own (more_long ls (numbered e more) long) (rows_quiet ls more quiet long rows)
    rem_other k off (Say b ∷ es) ls own long rows =
        let q = and_parts (is_of k b) (list_all (says (is_of k)) es) own in
        let behind : Rows (ls ++ numbered e (b ∷ [])) = rows_other k off ls (b ∷ []) (λ i. q.0 i && true) long rows in
        (behind, rem_other k off es (ls ++ numbered e (b ∷ [])) q.1 (more_long ls (numbered e (b ∷ [])) long) behind)

    module _ (p : Part) (of : IsOfPart p o) where
      -- the lines of the server and of naming
      pub rem_along : (begun : List Act) (outs : List Effect) (ls : List Line) (rows : List Row) → All is_steady outs →
          (Guard event first ls → rows_on o (table n ls) ≡ rows) → acts ls ≡ begun → first ≤ length ls
          → Along (holders_in false begun) n p o Ok outs rows → Rem e Rows outs ls
      rem_along begun [] ls rows steady same is long a = tt
      rem_along begun (Do w ∷ es) ls rows steady same is long a = rem_along begun es ls rows steady same is long a
      rem_along begun (Send to m ∷ es) ls rows steady same is long a =
          λ more quiet. rem_along begun es (ls ++ numbered e more) rows steady (λ g. ap (rows_on o) (quiet_table n e more quiet ls)
          ∙ same (guard_less event first e more ls long g)) (quiet_acts e more quiet ls ∙ is) (more_long ls (numbered e more) long) a
      rem_along begun (Say b ∷ es) ls rows steady same is long a = (
        (λ g. subst Ok (sym (behind g))
            (along_first (holders_in false begun) n p o Ok es (rows_by (holders_in false begun) n p o b rows) a.1)),
        rem_along begun es (ls ++ numbered e (b ∷ [])) (rows_by (holders_in false begun) n p o b rows) q.1 behind
            (acts_on ls (numbered e (b ∷ [])) ∙ acts_stay (acts ls) b q.0 ∙ is) (more_long ls (numbered e (b ∷ [])) long) a.1,
      )
        where
          q : (is_steady b ≡ true) × All is_steady es
          q = and_parts (is_steady b) (list_all (says is_steady) es) steady

          behind : Guard event first (ls ++ numbered e (b ∷ [])) →
              rows_on o (table n (ls ++ numbered e (b ∷ []))) ≡ rows_by (holders_in false begun) n p o b rows
          behind g =
              let u = guard_one event first e b ls long g in
              let off : (e == up_of n ls) ≡ false = ap (λ (z : ℕ). z == up_of n ls) u.0 ∙ u.1.1 n in
              own_line n p o of e b ls ∙ (λ i. rows_by (holders_in (off i) (is i)) n p o b (same u.1 i))

      -- the coordinator's lines
      pub rem_coord : (outs : List Effect) (ls : List Line) (rows : List Row) → AreAll is_coord_effect outs →
          (Guard event first ls → rows_on o (table n ls) ≡ rows) → first ≤ length ls → Ok rows → Rem e Rows outs ls
      rem_coord [] ls rows own same long ok = tt
      rem_coord (Do w ∷ es) ls rows own same long ok =
          rem_coord es ls rows (and_parts (is_coord_effect (Do w)) (list_all is_coord_effect es) own).1 same long ok
      rem_coord (Send to m ∷ es) ls rows own same long ok = λ more quiet. rem_coord es (ls ++ numbered e more) rows
          (and_parts (is_coord_effect (Send to m)) (list_all is_coord_effect es) own).1 (λ g. ap (rows_on o) (quiet_table n e more quiet ls)
          ∙ same (guard_less event first e more ls long g)) (more_long ls (numbered e more) long) ok
      rem_coord (Say b ∷ es) ls rows own same long ok = (
        (λ g. subst Ok (sym (behind g)) ok),
        rem_coord es (ls ++ numbered e (b ∷ [])) rows q.1 behind (more_long ls (numbered e (b ∷ [])) long) ok,
      )
        where
          q : (is_coord_effect (Say b) ≡ true) × AreAll is_coord_effect es
          q = and_parts (is_coord_effect (Say b)) (list_all is_coord_effect es) own

          behind : Guard event first (ls ++ numbered e (b ∷ [])) → rows_on o (table n (ls ++ numbered e (b ∷ []))) ≡ rows
          behind g =
              let u = guard_one event first e b ls long g in
              own_line n p o of e b ls ∙ coord_quiet (holders_in (e == up_of n ls) (acts ls)) n p o (Say b) q.0 (rows_on o (table n ls))
              ∙ same u.1

-- ---- what is left behind

module _ (e k : ℕ) (base : List Line) (nodes : ℕ → Option Node) (test : Body → Bool) where
  -- Behind these lines there are more, of the node and this event, of which none passes; and all other nodes are as they were.
  pub record Traced (N : Seen) : Type 0 where
    pub more : List Body
    pub lines : N.lines ≡ base ++ numbered e more
    pub own : list_all (is_of k) more ≡ true
    pub none : AllByRecursion (λ (b : Body). test b ≡ false) more
    pub others : (n : ℕ) → (n == k) ≡ false → memory_of (N.nodes n) ≡ memory_of (nodes n)

  two_more : (xs bs : List Body) → (base ++ numbered e xs) ++ numbered e bs ≡ base ++ numbered e (xs ++ bs)
  two_more xs bs = append_assoc base (numbered e xs) (numbered e bs)
      ∙ ap (λ ls. base ++ ls) (sym (map-append (λ (b : Body). record { event = e; body = b }) xs bs))

  abbrev traced_on : (bs : List Body) (N : Seen) → list_all (is_of k) bs ≡ true → AllByRecursion (λ (b : Body). test b ≡ false) bs →
      Traced N → Traced (said e bs N)
  traced_on bs N own none t = record {
    more = t.more ++ bs;
    lines = ap (λ ls. ls ++ numbered e bs) t.lines ∙ two_more t.more bs;
    own = list_both (is_of k) t.more bs t.own own;
    none = all_both (λ (b : Body). test b ≡ false) t.more bs t.none none;
    others = t.others;
  }

  abbrev traced_at : (d : Disk) (live : Option Parts) (N : Seen) → Traced N →
      Traced (record N { nodes = λ m. if m == k then Some (record { number = k; disk = d; live = live }) else N.nodes m })
  traced_at d live N t = record {
    more = t.more;
    lines = t.lines;
    own = t.own;
    none = t.none;
    others =
        λ n off. ap (λ b. memory_of (if b then Some (record { number = k; disk = d; live = live }) else N.nodes n)) off ∙ t.others n off;
  }

  module _ (P : List Line → Type 0) where
    -- and so it is at each of these lines
    pub record Traces (N : Seen) : Type 0 where
      pub traced : Traced N
      pub rows : (j : ℕ) → P (base ++ numbered e (take j traced.more))

    -- The node has stopped: so it is at each line but the last one.
    pub record Stopped (N : Seen) : Type 0 where
      pub traced : Traced N
      pub gone : memory_of (N.nodes k) ≡ None
      pub rows : (j : ℕ) → (take j traced.more ≡ traced.more) ⊎ P (base ++ numbered e (take j traced.more))

    module _ (silent : (b : Body) → is_quiet_line b ≡ true → test b ≡ false) (stops : test (body.Halted k) ≡ false) (first : ℕ)
        (long : first ≤ length base) (still : (ls : List Line) (bs : List Body) → AreQuiet bs → first ≤ length ls → P ls →
        P (ls ++ numbered e bs)) where
      all_silent : (bs : List Body) → AreQuiet bs → AllByRecursion (λ (b : Body). test b ≡ false) bs
      all_silent [] quiet = tt
      all_silent (b ∷ bs) quiet = let q = and_parts (is_quiet_line b) (list_all is_quiet_line bs) quiet in (silent b q.0, all_silent bs q.1)

      pub stopped_from : (d : Disk) (N : Seen) → Traces N → Stopped (halted e k d N)
      stopped_from d N t = record {
        traced = traced_on (body.Halted k ∷ [])
            (record N { nodes = λ m. if m == k then Some (record { number = k; disk = d; live = None }) else N.nodes m })
            (λ i. itself k i && true) (stops, tt) (traced_at d None N t.traced);
        gone = ap (λ b. memory_of (if b then Some (record { number = k; disk = d; live = None }) else N.nodes k)) (itself k);
        rows = λ j. ⊎_elim {C = (take j (m ++ last) ≡ m ++ last) ⊎ P (base ++ numbered e (take j (m ++ last)))}
            (λ (f : (i : ℕ) × (take j (m ++ last) ≡ take i m)).
            inr (subst (λ (zs : List Body). P (base ++ numbered e zs)) (sym f.1) (t.rows f.0)))
            (λ (f : (i : ℕ) × (take j (m ++ last) ≡ m ++ take i last)). by j f.0 f.1)
            (take_both j m last);
      }
        where
          m : List Body
          m = let z = t.traced in z.more

          last : List Body
          last = body.Halted k ∷ []

          by : (j i : ℕ) → take j (m ++ last) ≡ m ++ take i last →
              (take j (m ++ last) ≡ m ++ last) ⊎ P (base ++ numbered e (take j (m ++ last)))
          by j zero is = inr (subst (λ (zs : List Body). P (base ++ numbered e zs)) (sym (is ∙ append-nil m))
              (subst (λ (zs : List Body). P (base ++ numbered e zs)) (take_whole m) (t.rows (length m))))
          by j (suc i) is = inl (is ∙ ap (λ (zs : List Body). m ++ (body.Halted k ∷ zs)) (take_none i))

      here_long : (N : Seen) → Traced N → first ≤ length N.lines
      here_long N t = let q = length-append base (numbered e t.more) in let r = ap (λ (ls : List Line). length ls) t.lines in
          omega (arith, long, q, r)

      traces_on : (bs : List Body) (N : Seen) → list_all (is_of k) bs ≡ true → AllByRecursion (λ (b : Body). test b ≡ false) bs →
          ((j : ℕ) → P (N.lines ++ numbered e (take j bs))) → Traces N → Traces (said e bs N)
      traces_on bs N own none rows t = record {
        traced = traced_on bs N own none t.traced;
        rows = λ j. ⊎_elim {C = P (base ++ numbered e (take j (m ++ bs)))}
            (λ (f : (i : ℕ) × (take j (m ++ bs) ≡ take i m)). subst (λ (zs : List Body). P (base ++ numbered e zs)) (sym f.1) (t.rows f.0))
            (λ (f : (i : ℕ) × (take j (m ++ bs) ≡ m ++ take i bs)). subst P (ap (λ ls. ls ++ numbered e (take f.0 bs)) (let z = t.traced in
            z.lines) ∙ two_more m (take f.0 bs) ∙ ap (λ (zs : List Body). base ++ numbered e zs) (sym f.1)) (rows f.0))
            (take_both j m bs);
      }
        where
          m : List Body
          m = let z = t.traced in z.more

      rows_here : (N : Seen) → Traces N → P N.lines
      rows_here N t = let z = t.traced in
          subst P (ap (λ (zs : List Body). base ++ numbered e zs) (take_whole z.more) ∙ sym z.lines) (t.rows (length z.more))

      rows_one : (ls : List Line) (b : Body) → P ls → P (ls ++ numbered e (b ∷ [])) → (j : ℕ) → P (ls ++ numbered e (take j (b ∷ [])))
      rows_one ls b before behind zero = subst P (sym (append-nil ls)) before
      rows_one ls b before behind (suc j) = subst (λ (zs : List Body). P (ls ++ numbered e (b ∷ zs))) (sym (take_none j)) behind

      -- so it is at the end of the effects, and at each stop
      pub trace_walk : (outs : List Effect) (d : Disk) (N : Seen) → All (is_of k) outs → AllByRecursion
          (SayOf (λ (b : Body). test b ≡ false)) outs → Rem e P outs N.lines → Traces N → Walks Stopped e k outs (λ c L. Traces L) d N
      trace_walk [] d N own none rem t = t
      trace_walk (Do w ∷ es) d N own none rem t =
          ((λ how. stopped_from (stopped how w d) N t), trace_walk es (worked w d) N own none.1 rem t)
      trace_walk (Say b ∷ es) d N own none rem t =
          let q = and_parts (is_of k b) (list_all (says (is_of k)) es) own in
          trace_walk es d (said e (b ∷ []) N) q.1 none.1 rem.1
          (traces_on (b ∷ []) N (λ i. q.0 i && true) (none.0, tt) (rows_one N.lines b (rows_here N t) rem.0) t)
      trace_walk (Send to m ∷ es) d N own none rem t = λ more quiet.
          let p : Post = record { from = k; to = to; message = m } in
          trace_walk es d (said e more (posted p N)) own none.1 (rem more quiet)
          (traces_on more (posted p N) (quiet_of k more quiet) (all_silent more quiet) (λ j.
          still N.lines (take j more) (all_taken is_quiet_line j more quiet) (here_long N t.traced) (rows_here N t)) (posted_on p N t))
        where
          posted_on : (p : Post) (N : Seen) → Traces N → Traces (posted p N)
          posted_on p N t = record {
            traced = (let z = t.traced in record { more = z.more; lines = z.lines; own = z.own; none = z.none; others = z.others });
            rows = t.rows;
          }

    -- as it begins
    pub traces_first : (N : Seen) → N.lines ≡ base → ((n : ℕ) → (n == k) ≡ false → memory_of (N.nodes n) ≡ memory_of (nodes n)) → P base →
        Traces N
    traces_first N same others rows = record {
      traced = record { more = []; lines = same ∙ sym (append-nil base); own = refl; none = tt; others = others };
      rows = λ j. subst (λ (zs : List Body). P (base ++ numbered e zs)) (sym (take_none j)) (subst P (sym (append-nil base)) rows);
    }
