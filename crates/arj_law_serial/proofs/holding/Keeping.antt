-- A node's effects, walked through: tables go on showing locks, as long as all lines are of one event.
use Rattle.arj_law_parts.proofs.Words
use Words.{◌≡◌, ◌≤◌, ◌∙◌, ◌==◌, ◌++◌, ◌&&◌, ℕ, List, [], ◌∷◌, Bool, true, false, length, Option, Some, None, refl, sym, ap, subst, arith}
use Words.{eqb-true, length-append, if◌then◌else◌, list_all, and_parts, entry, object, Body, Line, Part, Row, Uid, Disk, Do, Effect, Say}
use Words.{Send, stopped, worked, Holders, rows_after, rows_by, server_rows, Parts, AreAll, is_coord_effect, is_coord_line, numbered, Post}
use Words.{Seen}
use Words.body
use Rattle.arj_law_serial.proofs.Terms
use Terms.{Act, acts, acts_after, table, up_step, AreQuiet, at, posted, said, up, Up, Walks, halted, IsOfPart, holders_in, is_steady}
use Terms.{rows_on, up_of, memory_of, named_locks, ShowsLocks}
use Terms.part
use Rattle.arj_law_serial.proofs.holding
use holding.{Says.All, Says.says, Sorts.by_kind, Sorts.is_of}
use holding.Lines.{Since, acts_on, halted_table, itself, other_starts, other_tables, own_line, quiet_acts, quiet_of, quiet_starts}
use holding.Lines.{quiet_table, since_last, since_less, start_before, ups_on}
use Rattle.arj_law_serial.proofs.tables.Effects.{acts_stay}

-- ---- what effects do to the rows on one object, as actions begin among them

abbrev pub rows_along : List Act → ℕ → Part → Uid → List Effect → List Row → List Row
rows_along begun n p o [] rows = rows
rows_along begun n p o (Say b ∷ es) rows = rows_along (acts_after begun b) n p o es (rows_by (holders_in false begun) n p o b rows)
rows_along begun n p o (Send to m ∷ es) rows = rows_along begun n p o es rows
rows_along begun n p o (Do w ∷ es) rows = rows_along begun n p o es rows

-- where none begins
pub along_steady : (begun : List Act) (n : ℕ) (p : Part) (o : Uid) (es : List Effect) → All is_steady es → (rows : List Row) →
    rows_along begun n p o es rows ≡ rows_after (holders_in false begun) n p o es rows
along_steady begun n p o [] all rows = refl
along_steady begun n p o (Say b ∷ es) all rows =
    let q = and_parts (is_steady b) (list_all (says is_steady) es) all in
    (λ i. rows_along (acts_stay begun b q.0 i) n p o es (rows_by (holders_in false begun) n p o b rows))
    ∙ along_steady begun n p o es q.1 (rows_by (holders_in false begun) n p o b rows)
along_steady begun n p o (Send to m ∷ es) all rows = along_steady begun n p o es all rows
along_steady begun n p o (Do w ∷ es) all rows = along_steady begun n p o es all rows

-- a coordinator's lines do nothing to locks
coord_rows : (h : Holders) (n : ℕ) (p : Part) (o : Uid) (rows : List Row) (b : Body) → is_coord_line b ≡ true →
    rows_by h n p o b rows ≡ rows
coord_rows h n p o rows = by_kind (λ b. is_coord_line b ≡ true → rows_by h n p o b rows ≡ rows)
    (λ b plain is. plain.rows h n p o rows)
    (λ l k u q is. refl)
    (λ m u x how is. absurd (cc is))
    (λ m u x is. absurd (cc is))
    (λ m x c is. absurd (cc is))
    (λ m u e q is. absurd (cc is))
    (λ m is. absurd (cc is))
    (λ m i is. absurd (cc is))

pub coord_of : (k : ℕ) (b : Body) → is_coord_line b ≡ true → is_of k b ≡ true
coord_of k = by_kind (λ b. is_coord_line b ≡ true → is_of k b ≡ true)
    (λ b plain is. plain.of k)
    (λ l h u q is. refl)
    (λ m u x how is. absurd (cc is))
    (λ m u x is. absurd (cc is))
    (λ m x c is. absurd (cc is))
    (λ m u e q is. absurd (cc is))
    (λ m is. absurd (cc is))
    (λ m i is. absurd (cc is))

pub along_coord : (begun : List Act) (n : ℕ) (p : Part) (o : Uid) (es : List Effect) → AreAll is_coord_effect es → (rows : List Row) →
    rows_along begun n p o es rows ≡ rows
along_coord begun n p o [] all rows = refl
along_coord begun n p o (Say b ∷ es) all rows =
    let q = and_parts (is_coord_line b) (list_all is_coord_effect es) all in
    along_coord (acts_after begun b) n p o es q.1 (rows_by (holders_in false begun) n p o b rows)
    ∙ coord_rows (holders_in false begun) n p o rows b q.0
along_coord begun n p o (Send to m ∷ es) all rows = along_coord begun n p o es all rows
along_coord begun n p o (Do w ∷ es) all rows =
    along_coord begun n p o es (and_parts (is_coord_effect (Do w)) (list_all is_coord_effect es) all).1 rows

-- ---- what is shown

longer : (n : ℕ) (ls ms : List Line) → n ≤ length ls → n ≤ length (ls ++ ms)
longer n ls ms le = let q = length-append ls ms in omega (arith, le, q)

pub same_shown : (n : ℕ) (ls ms : List Line) (live : Option Parts) → table n ms ≡ table n ls → ShowsLocks n ls live → ShowsLocks n ms live
same_shown n ls ms live same h =
    record { server = λ x. ap (rows_on (object x)) same ∙ h.server x; naming = λ x one. ap (rows_on (entry x)) same ∙ h.naming x one }

module _ (first event : ℕ) where
  -- Behind so many lines all are of this event: then the table of each node that didn't start in it has the node's locks.
  pub record Shown (M : Seen) : Type 0 where
    pub long : first ≤ length M.lines
    pub shown : Since event first M.lines → (n : ℕ) → (event == up_of n M.lines) ≡ false → ShowsLocks n M.lines (memory_of (M.nodes n))

  pub quiet_shown : (e : ℕ) (bs : List Body) (M : Seen) → AreQuiet bs → Shown M → Shown (said e bs M)
  quiet_shown e bs M quiet h = record {
    long = longer first M.lines (numbered e bs) h.long;
    shown = λ since n off. same_shown n M.lines (M.lines ++ numbered e bs) (memory_of (M.nodes n)) (quiet_table n e bs quiet M.lines)
        (h.shown (since_less event first M.lines (numbered e bs) since) n
        ((λ i. event == sym (quiet_starts n e bs quiet M.lines) i) ∙ off));
  }

  module _ (e k : ℕ) where
    -- so it is of all other nodes than this one
    pub record Others (N : Seen) : Type 0 where
      pub long : first ≤ length N.lines
      pub shown : Since event first N.lines → (n : ℕ) → (n == k) ≡ false → (event == up_of n N.lines) ≡ false →
          ShowsLocks n N.lines (memory_of (N.nodes n))

    -- and of this one, with these parts, once the rest of its effects is done
    abbrev pub Own : Parts → List Effect → List Line → Type 0
    Own v rest ls = Since event first ls → (event == up_of k ls) ≡ false
        → ((x : ℕ) → rows_along (acts ls) k part.Server (object x) rest (rows_on (object x) (table k ls)) ≡ server_rows x v.server)
        × ((x : ℕ) → (k == 1) ≡ true →
        rows_along (acts ls) k part.Naming (entry x) rest (rows_on (entry x) (table k ls)) ≡ named_locks x v.naming)

    pub others_say : (bs : List Body) (N : Seen) → list_all (is_of k) bs ≡ true → Others N → Others (said e bs N)
    others_say bs N all h = record {
      long = longer first N.lines (numbered e bs) h.long;
      shown = λ since n off before.
          same_shown n N.lines (N.lines ++ numbered e bs) (memory_of (N.nodes n)) (other_tables n k e off bs all N.lines)
          (h.shown (since_less event first N.lines (numbered e bs) since) n off
          ((λ i. event == sym (other_starts n k e off bs all N.lines) i) ∙ before));
    }

    others_post : (p : Post) (N : Seen) → Others N → Others (posted p N)
    others_post p N h = record { long = h.long; shown = h.shown }

    own_say : (v : Parts) (rest : List Effect) (b : Body) (ls : List Line) → first ≤ length ls → Own v (Say b ∷ rest) ls →
        Own v rest (ls ++ numbered e (b ∷ []))
    own_say v rest b ls long own since off = (
      (λ x. step part.Server (object x) refl ∙ o.0 x),
      (λ x one. step part.Naming (entry x) refl ∙ o.1 x one),
    )
      where
        same : e ≡ event
        same = since_last event first e b ls long since

        before : (event == up_of k ls) ≡ false
        before = start_before k event (up_of k ls) b
            ((λ i. event == up_step_at (sym same i)) ∙ (λ i. event == sym (ups_on k 0 ls (numbered e (b ∷ []))) i) ∙ off)
          where
            up_step_at : ℕ → ℕ
            up_step_at z = up_step k z b (up_of k ls)

        o : ((x : ℕ) →
            rows_along (acts ls) k part.Server (object x) (Say b ∷ rest) (rows_on (object x) (table k ls)) ≡ server_rows x v.server)
            × ((x : ℕ) → (k == 1) ≡ true →
            rows_along (acts ls) k part.Naming (entry x) (Say b ∷ rest) (rows_on (entry x) (table k ls)) ≡ named_locks x v.naming)
        o = own (since_less event first ls (numbered e (b ∷ [])) since) before

        here : (e == up_of k ls) ≡ false
        here = ap (λ z. z == up_of k ls) same ∙ before

        step : (p : Part) (o : Uid) → IsOfPart p o → rows_along (acts (ls ++ numbered e (b ∷ []))) k p o rest
            (rows_on o (table k (ls ++ numbered e (b ∷ [])))) ≡ rows_along (acts ls) k p o (Say b ∷ rest) (rows_on o (table k ls))
        step p z of = λ i. rows_along (acts_on ls (numbered e (b ∷ [])) i) k p z rest
            ((own_line k p z of e b ls ∙ (λ j. rows_by (holders_in (here j) (acts ls)) k p z b (rows_on z (table k ls)))) i)

    own_quiet : (v : Parts) (rest : List Effect) (bs : List Body) (ls : List Line) → AreQuiet bs → Own v rest ls →
        Own v rest (ls ++ numbered e bs)
    own_quiet v rest bs ls quiet own since off = (
      (λ x. step part.Server (object x) ∙ o.0 x),
      (λ x one. step part.Naming (entry x) ∙ o.1 x one),
    )
      where
        o : ((x : ℕ) → rows_along (acts ls) k part.Server (object x) rest (rows_on (object x) (table k ls)) ≡ server_rows x v.server)
            × ((x : ℕ) → (k == 1) ≡ true →
            rows_along (acts ls) k part.Naming (entry x) rest (rows_on (entry x) (table k ls)) ≡ named_locks x v.naming)
        o = own (since_less event first ls (numbered e bs) since) ((λ i. event == sym (quiet_starts k e bs quiet ls) i) ∙ off)

        step : (p : Part) (o : Uid) → rows_along (acts (ls ++ numbered e bs)) k p o rest (rows_on o (table k (ls ++ numbered e bs)))
            ≡ rows_along (acts ls) k p o rest (rows_on o (table k ls))
        step p z = λ i. rows_along (quiet_acts e bs quiet ls i) k p z rest (rows_on z (quiet_table k e bs quiet ls i))

    -- all nodes, where this one is put
    placed : (d : Disk) (live : Option Parts) (N : Seen) (ls : List Line) → ((n : ℕ) → (n == k) ≡ false → (event == up_of n ls) ≡ false →
        ShowsLocks n ls (memory_of (N.nodes n))) → ((event == up_of k ls) ≡ false → ShowsLocks k ls live)
        → (n : ℕ) → (event == up_of n ls) ≡ false →
        ShowsLocks n ls (memory_of (if n == k then Some (record { number = k; disk = d; live = live }) else N.nodes n))
    placed d live N ls others own n off = by (n == k) refl
      where
        by : (b : Bool) → (n == k) ≡ b →
            ShowsLocks n ls (memory_of (if b then Some (record { number = k; disk = d; live = live }) else N.nodes n))
        by true is =
            let same : n ≡ k = eqb-true n k is in
            subst (λ j. ShowsLocks j ls live) (sym same) (own ((λ i. event == up_of (sym same i) ls) ∙ off))
        by false is = others n is off

    pub stop_shown : (d : Disk) (N : Seen) → Others N → Shown (halted e k d N)
    stop_shown d N h =
        let o = others_say (body.Halted k ∷ []) N (λ i. itself k i && true) h in
        let ls = N.lines ++ numbered e (body.Halted k ∷ []) in
        record {
          long = o.long;
          shown = λ since. placed d None N ls (o.shown since) (λ off. record {
            server = λ x. ap (rows_on (object x)) (halted_table k e N.lines);
            naming = λ x one. ap (rows_on (entry x)) (halted_table k e N.lines);
          });
        }

    pub shown_walk : (v : Parts) (outs : List Effect) (d : Disk) (N : Seen) → All (is_of k) outs → Others N → Own v outs N.lines →
        Walks Shown e k outs (Up Shown k v) d N
    shown_walk v [] d N all others own = record {
      long = others.long;
      shown =
          λ since. placed d (Some v) N N.lines (others.shown since) (λ off. let o = own since off in record { server = o.0; naming = o.1 });
    }
    shown_walk v (Do w ∷ es) d N all others own =
        ((λ how. stop_shown (stopped how w d) N others), shown_walk v es (worked w d) N all others own)
    shown_walk v (Say b ∷ es) d N all others own =
        let q = and_parts (is_of k b) (list_all (says (is_of k)) es) all in
        shown_walk v es d (said e (b ∷ []) N) q.1 (others_say (b ∷ []) N (λ i. q.0 i && true) others)
        (own_say v es b N.lines others.long own)
    shown_walk v (Send to m ∷ es) d N all others own = λ more quiet.
        let p : Post = record { from = k; to = to; message = m } in
        shown_walk v es d (said e more (posted p N)) all (others_say more (posted p N) (quiet_of k more quiet) (others_post p N others))
        (own_quiet v es more N.lines quiet own)

    -- ---- from what is shown

    pub others_of : (d : Disk) (live : Option Parts) (M : Seen) → Shown (at k d live M) → Others M
    others_of d live M h = record { long = h.long; shown = λ since n off before. by since n off before (h.shown since n before) }
      where
        by : Since event first M.lines → (n : ℕ) → (n == k) ≡ false → (event == up_of n M.lines) ≡ false →
            ShowsLocks n M.lines (memory_of (if n == k then Some (record { number = k; disk = d; live = live }) else M.nodes n)) →
            ShowsLocks n M.lines (memory_of (M.nodes n))
        by since n off before s = subst
            (λ b. ShowsLocks n M.lines (memory_of (if b then Some (record { number = k; disk = d; live = live }) else M.nodes n))) off s

    pub own_of : (d : Disk) (live : Option Parts) (M : Seen) → Shown (at k d live M) → Since event first M.lines →
        (event == up_of k M.lines) ≡ false → ShowsLocks k M.lines live
    own_of d live M h since off = subst (λ b. ShowsLocks k M.lines
        (memory_of (if b then Some (record { number = k; disk = d; live = live }) else M.nodes k))) (itself k) (h.shown since k off)

    pub stop_kept : (d : Disk) (live : Option Parts) (M : Seen) → Shown (at k d live M) → Shown (halted e k d M)
    stop_kept d live M h = stop_shown d M (others_of d live M h)

    -- what the coordinator does changes no lock
    pub coord_shown : (d : Disk) (t v : Parts) (outs : List Effect) (M N : Seen) → N.lines ≡ M.lines → N.nodes ≡ M.nodes →
        AreAll is_coord_effect outs → All (is_of k) outs → v.server ≡ t.server → v.naming ≡ t.naming → Shown (up k d t M) →
        Walks Shown e k outs (Up Shown k v) d N
    coord_shown d t v outs M N same_lines same_nodes coord all server naming h = shown_walk v outs d N all others own
      where
        others : Others N
        others =
            let o = others_of d (Some t) M h in
            record {
              long = subst (λ ls. first ≤ length ls) (sym same_lines) o.long;
              shown = subst (λ ls. Since event first ls → (n : ℕ) → (n == k) ≡ false → (event == up_of n ls) ≡ false →
                  ShowsLocks n ls (memory_of (N.nodes n))) (sym same_lines)
                  (subst (λ f. Since event first M.lines → (n : ℕ) → (n == k) ≡ false → (event == up_of n M.lines) ≡ false →
                  ShowsLocks n M.lines (memory_of (f n))) (sym same_nodes) o.shown);
            }

        own : Own v outs N.lines
        own = subst (Own v outs) (sym same_lines) (λ since off.
            let s = own_of d (Some t) M h since off in (
              (λ x. along_coord (acts M.lines) k part.Server (object x) outs coord (rows_on (object x) (table k M.lines)) ∙ s.server x
                  ∙ ap (server_rows x) (sym server)),
              (λ x one. along_coord (acts M.lines) k part.Naming (entry x) outs coord (rows_on (entry x) (table k M.lines)) ∙ s.naming x one
                  ∙ ap (named_locks x) (sym naming)),
            ))
