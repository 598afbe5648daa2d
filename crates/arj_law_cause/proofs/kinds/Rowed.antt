-- Where a server or naming says a line of an end it has a lock of the action or of one below it, and the table of its node has that row.
use Rattle.arj_law_parts.proofs.Words
use Words.{⊤, ◌≡◌, ◌⊎◌, ◌<◌, ◌∙◌, ◌==◌, ◌&&◌, ◌||◌, ◌++◌, not, ℕ, Bool, true, false, cond, List, [], ◌∷◌, Option, Some, None, refl, sym, ap}
use Words.{subst, inl, inr, ⊎_elim, arith, append_assoc, list_any, AllByRecursion, Contains, In, in_from, is_on, flat_map}
use Words.{nat_cmp, is_eq, uid_eq, uid_is, Ask, Asked, Binding, Body, End, Head, InvokedReply, Line, Message, Op, Reply, Row, Uid}
use Words.{VotedReply}
use Words.{What, answers, asks, at_number, at_uid, actor, asked_by, entry, heard, last_end, object, response, Disk, Do, Effect, Say, Send}
use Words.{Did, Served}
use Words.{did_nothing, either, reply, void, Naming, Pair, end_entries, end_lines, end_orphans, orphans, own_entries, told_new}
use Words.{AreOfActions, Handled, Parts, Took, Void, ack_told, end_states, handle, handle_answer}
use Words.{handle_ask, handle_ends, handle_other, handle_told, heard_own, is_prepared, naming_told, numbered, option_map, rows_by}
use Words.{sends_answer}
use Words.{serve, served, server_rows, store_told, with_coord, with_server, Copy, Kept, Server, apply_ends, changed_by, ends_in, end_new}
use Words.{end_one}
use Words.{first_unbound, has_ended, invoke_copy, invoke_kept, invoke_new, invoke_now, is_below, is_told, on_copy, other_inc, rows_in_copy}
use Words.{vote_now}
use Words.ask
use Words.body
use Words.ending
use Words.message
use Words.naming
use Words.part
use Words.server
use Rattle.arj_law_disk_view.specs.running.Places.{AreKeyed}
use Rattle.arj_law_parts.specs.moves.Seen.{AreQuiet}
use Rattle.arj_law_parts.specs.parts.Ends.{brought, brought_by, told_by}
use Rattle.arj_law_parts.specs.steps.Spoken.{SaidIn}
use Rattle.arj_law_runs.proofs.addresses.Lists.{all_append}
use Rattle.arj_law_serial.proofs.Terms.{acts, holders_in, rows_on, up_of}
use Rattle.arj_law_serial.proofs.holding.Lines.{own_line}
use Rattle.arj_model.specs.Table.{is_entry, is_in_part, table}
use Rattle.arj_protocol.proofs.ServerTable.{one_end}
use Rattle.arj_protocol.specs.Copy.{end_copy, holds}
use Rattle.arj_protocol.specs.Laws.{naming_rows, rows_ended}
use Rattle.arj_law_cause.proofs.rows.Holders.{one_passes}
use Rattle.arj_law_cause.proofs.kinds.Anew.{IsEmpty, one_empty}
use Rattle.arj_law_cause.proofs.kinds.Numbered.{Rise, lock_found}
use Rattle.arj_law_cause.proofs.kinds.Tells.{AskPrepares, SaysBy, asked_all, is_of_ends, other_all, replied, serve_all}

-- a line by which no locks go at an end
abbrev pub is_free : Body → Bool
is_free (body.Told n u f p) = false
is_free b = true

abbrev IsFreeLine : Body → Type 0
IsFreeLine b = is_free b ≡ true

others_free : (b : Body) → is_of_ends b ≡ false → IsFreeLine b
others_free (body.Told n u f p) is = absurd (cc is)
others_free b is = refl

free_prepared : (k : ℕ) (h : Head) (a : Ask) → AskPrepares IsFreeLine k h a
free_prepared k h (Words.ask.Prepare states) = refl
free_prepared k h (Words.ask.Confirm grants excluded included) = λ some. refl
free_prepared k h a = tt

-- ---- copies are told apart by their numbers

none_above : (k : ℕ) (m : List (ℕ × Copy)) → AllByRecursion (λ (e : ℕ × Copy). k < e.0) m → at_number k m ≡ None
none_above k [] all = refl
none_above k (e ∷ es) all = by (is_eq (nat_cmp k e.0)) refl (none_above k es all.1)
  where
    same_key : is_eq (nat_cmp k e.0) ≡ true → e.0 ≡ k
    same_key is = grind (arith, is)

    by : (b : Bool) → is_eq (nat_cmp k e.0) ≡ b → at_number k es ≡ None → cond b (Some e.1) (at_number k es) ≡ None
    by true is ih = let same = same_key is in absurd (omega (arith, same, all.0))
    by false is ih = ih

found : (u : Uid) (m : List (ℕ × Copy)) → AreKeyed m → list_any (λ (e : ℕ × Copy). holds u e.1.rows) m ≡ true →
    (x : ℕ) × (holds u (rows_in_copy (at_number x m)) ≡ true)
found u [] keyed any = absurd (cc any)
found u (e ∷ es) keyed any = by (holds u e.1.rows) refl any (found u es keyed.1)
  where
    self : (n : ℕ) → is_eq (nat_cmp n n) ≡ true
    self n = grind arith

    same_key : (k n : ℕ) → is_eq (nat_cmp k n) ≡ true → n ≡ k
    same_key k n is = grind (arith, is)

    behind : (x : ℕ) → holds u (rows_in_copy (at_number x es)) ≡ true → (b : Bool) → is_eq (nat_cmp x e.0) ≡ b →
        holds u (rows_in_copy (cond b (Some e.1) (at_number x es))) ≡ true
    behind x is false other = is
    behind x is true at =
        let none : at_number x es ≡ None = ap (λ k. at_number k es) (sym (same_key x e.0 at)) ∙ none_above e.0 es keyed.0 in
        absurd (cc (sym (ap (λ o. holds u (rows_in_copy o)) none) ∙ is))

    by : (b : Bool) → holds u e.1.rows ≡ b → (b || list_any (λ (f : ℕ × Copy). holds u f.1.rows) es) ≡ true →
        (list_any (λ (f : ℕ × Copy). holds u f.1.rows) es ≡ true → (x : ℕ) × (holds u (rows_in_copy (at_number x es)) ≡ true)) →
        (x : ℕ) × (holds u (rows_in_copy (at_number x (e ∷ es))) ≡ true)
    by true its any ih = (e.0, (λ i. holds u (rows_in_copy (cond (self e.0 i) (Some e.1) (at_number e.0 es)))) ∙ its)
    by false off any ih = let r = ih any in (r.0, behind r.0 r.1 (is_eq (nat_cmp r.0 e.0)) refl)

-- ends leave the keys
keyed_one : (n : ℕ) (u : Uid) (e : End) (s : Server) → AreKeyed s.objects → AreKeyed (let t = (end_one n u e s).part in t.objects)
keyed_one n u e s keyed = by (is_told u s)
  where
    above : (f : ℕ → Copy → Copy) (k : ℕ) (m : List (ℕ × Copy)) → AllByRecursion (λ (e : ℕ × Copy). k < e.0) m →
        AllByRecursion (λ (e : ℕ × Copy). k < e.0) (Words.each f m)
    above f k [] all = tt
    above f k (e ∷ es) all = (all.0, above f k es all.1)

    each_keyed : (f : ℕ → Copy → Copy) (m : List (ℕ × Copy)) → AreKeyed m → AreKeyed (Words.each f m)
    each_keyed f [] keyed = tt
    each_keyed f (e ∷ es) keyed = (above f e.0 es keyed.0, each_keyed f es keyed.1)

    by : (b : Bool) → AreKeyed (let t = (cond {A = Did Server} b (did_nothing s) (end_new n u (server.taken_end u e s) s)).part in
        t.objects)
    by true = keyed
    by false = each_keyed (λ x. end_copy u (server.taken_end u e s)) s.objects keyed

no_end : (p : Uid × End) → Contains {X = Uid × End} [] p → ⊥
no_end p c = in_from p [] c

-- ---- effects, at a node, of an event

module _ (k e : ℕ) where
  -- the table has a row that goes with this line
  abbrev pub HasRow : List Line → Body → Type 0
  HasRow ls (body.Told n u f p) = list_any (λ row. is_in_part p row && is_on row.holder u) (table n ls) ≡ true
  HasRow ls b = ⊤

  -- so it is of these effects, behind these lines
  abbrev pub Rowed : List Effect → List Line → Type 0
  Rowed [] ls = ⊤
  Rowed (Do w ∷ es) ls = Rowed es ls
  Rowed (Say b ∷ es) ls = HasRow ls b × Rowed es (ls ++ numbered e (b ∷ []))
  Rowed (Send to m ∷ es) ls = (more : List Body) → AreQuiet more → Rowed es (ls ++ numbered e more)

  abbrev AreFree : List Effect → Type 0
  AreFree es = AllByRecursion (SaidIn IsFreeLine) es

  free_row : (ls : List Line) (b : Body) → IsFreeLine b → HasRow ls b
  free_row ls (body.Told n u f p) is = absurd (cc is)
  free_row ls b is = tt

  free_rowed : (es : List Effect) (ls : List Line) → AreFree es → Rowed es ls
  free_rowed [] ls all = tt
  free_rowed (Do w ∷ es) ls all = free_rowed es ls all.1
  free_rowed (Say b ∷ es) ls all = (free_row ls b all.0, free_rowed es (ls ++ numbered e (b ∷ [])) all.1)
  free_rowed (Send to m ∷ es) ls all = λ more quiet. free_rowed es (ls ++ numbered e more) all.1

  -- the table has the server's locks
  abbrev pub IsTableOf : Server → List Line → Type 0
  IsTableOf s ls = (x : ℕ) → rows_on (object x) (table k ls) ≡ server_rows x s

  -- it keeps them behind such a line
  abbrev pub stays : Body → Bool
  stays (body.Told n u f part.Naming) = true
  stays (body.Done n u r f) = true
  stays b = false

  stays_table : (s : Server) (ls : List Line) (b : Body) → stays b ≡ true → IsTableOf s ls → IsTableOf s (ls ++ numbered e (b ∷ []))
  stays_table s ls b is t x = own_line k part.Server (object x) refl e b ls ∙ same b is ∙ t x
    where
      off : (c : Bool) (rows other : List Row) → cond (c && false) other rows ≡ rows
      off true rows other = refl
      off false rows other = refl

      same : (b : Body) → stays b ≡ true → rows_by (holders_in (e == up_of k ls) (acts ls)) k part.Server (object x) b
          (rows_on (object x) (table k ls)) ≡ rows_on (object x) (table k ls)
      same (body.Told n u f part.Naming) is = off (n == k) (rows_on (object x) (table k ls))
          (rows_ended f u (rows_on (object x) (table k ls)))
      same (body.Told n u f part.Server) is = absurd (cc is)
      same (body.Done n u r f) is = refl
      same b is = absurd (cc is)

  abbrev pub IsStill : Effect → Type 0
  IsStill (Say b) = stays b ≡ true
  IsStill (Do w) = ⊤
  IsStill (Send to m) = ⊥

  -- what is done on a disk
  abbrev is_done : Body → Bool
  is_done (body.Done n u r f) = true
  is_done b = false

  abbrev IsDone : Effect → Type 0
  IsDone (Say b) = is_done b ≡ true
  IsDone (Do w) = ⊤
  IsDone (Send to m) = ⊥

  done_free : (b : Body) → is_done b ≡ true → IsFreeLine b
  done_free (body.Done n u r f) is = refl
  done_free b is = absurd (cc is)

  done_stays : (b : Body) → is_done b ≡ true → stays b ≡ true
  done_stays (body.Done n u r f) is = refl
  done_stays b is = absurd (cc is)

  -- the table of node 1 has naming's locks
  abbrev pub NamesTable : Option Naming → List Line → Type 0
  NamesTable None ls = ⊤
  NamesTable (Some o) ls = (x : ℕ) → rows_on (entry x) (table 1 ls) ≡ naming_rows x o

  done_names : (o : Option Naming) (ls : List Line) (b : Body) → is_done b ≡ true → NamesTable o ls → NamesTable o (ls ++ numbered e (b ∷
      []))
  done_names None ls b is t = tt
  done_names (Some o) ls b is t = λ x. own_line 1 part.Naming (entry x) refl e b ls ∙ same x b is ∙ t x
    where
      same : (x : ℕ) (b : Body) → is_done b ≡ true → rows_by (holders_in (e == up_of 1 ls) (acts ls)) 1 part.Naming (entry x) b
          (rows_on (entry x) (table 1 ls)) ≡ rows_on (entry x) (table 1 ls)
      same x (body.Done n u r f) is = refl
      same x b is = absurd (cc is)

  -- behind such effects it goes on as it would before them
  behind : (T : List Line → Type 0) → ((ls : List Line) (b : Body) → is_done b ≡ true → T ls → T (ls ++ numbered e (b ∷ []))) →
      (es fs : List Effect) → AllByRecursion IsDone es → ((ls : List Line) → T ls → Rowed fs ls) → (ls : List Line) → T ls → Rowed (es ++
      fs) ls
  behind T keep [] fs all rest ls t = rest ls t
  behind T keep (Do w ∷ es) fs all rest ls t = behind T keep es fs all.1 rest ls t
  behind T keep (Say b ∷ es) fs all rest ls t = (
    free_row ls b (done_free b all.0),
    behind T keep es fs all.1 rest (ls ++ numbered e (b ∷ [])) (keep ls b all.0 t),
  )
  behind T keep (Send to m ∷ es) fs all rest ls t = absurd all.0

  -- a row on this object is in the table
  among : (p : Words.Part) (u o : Uid) → ((r : Row) → r.object ≡ o → is_in_part p r ≡ true) → (rows : List Row) (r : Row) →
      In r (rows_on o rows) → is_on r.holder u ≡ true → list_any (λ row. is_in_part p row && is_on row.holder u) rows ≡ true
  among p u o of [] r i on = absurd i
  among p u o of (q ∷ rows) r i on = by (uid_eq q.object o) refl i (among p u o of rows r)
    where
      later : (b : Bool) → (b || true) ≡ true
      later true = refl
      later false = refl

      or_later : list_any (λ row. is_in_part p row && is_on row.holder u) rows ≡ true →
          ((is_in_part p q && is_on q.holder u) || list_any (λ row. is_in_part p row && is_on row.holder u) rows) ≡ true
      or_later is = ap (λ b. (is_in_part p q && is_on q.holder u) || b) is ∙ later (is_in_part p q && is_on q.holder u)

      by : (b : Bool) → uid_eq q.object o ≡ b → In r (cond b (q ∷ rows_on o rows) (rows_on o rows)) → (In r (rows_on o rows) →
          is_on r.holder u ≡ true → list_any (λ row. is_in_part p row && is_on row.holder u) rows ≡ true) →
          ((is_in_part p q && is_on q.holder u) || list_any (λ row. is_in_part p row && is_on row.holder u) rows) ≡ true
      by false other i ih = or_later (ih i on)
      by true same (inr i) ih = or_later (ih i on)
      by true same (inl is) ih = λ i. (of q (uid_is q.object o same) i && here i) || list_any (λ row. is_in_part p row && is_on row.holder
          u) rows
        where
          here : is_on q.holder u ≡ true
          here = ap (λ (z : Row). is_on z.holder u) is ∙ on

  -- where naming has a lock of the action, the table has that row
  names_row : (o : Naming) (u : Uid) → Rise o → naming.has_locks u o ≡ true → (ls : List Line) → NamesTable (Some o) ls → (f : End) →
      HasRow ls (body.Told 1 u f part.Naming)
  names_row o u rise has ls t f =
      let l = lock_found u o.objects rise has in
      let r = one_passes (λ (r : Row). is_on r.holder u) (rows_on (entry l.0) (table 1 ls))
      (ap (list_any (λ (r : Row). is_on r.holder u)) (t l.0) ∙ l.1) in
      among part.Naming u (entry l.0) (λ q same. ap is_entry same) (table 1 ls) r.0 r.1 r.2

  -- where a server has a lock of the action, the table has that row
  row_of : (s : Server) (u : Uid) → AreKeyed s.objects → server.has_locks u s ≡ true → (ls : List Line) → IsTableOf s ls →
      (f : End) → HasRow ls (body.Told k u f part.Server)
  row_of s u keyed has ls t f =
      let o = found u s.objects keyed has in
      let r = one_passes (λ (r : Row). is_on r.holder u) (rows_on (object o.0) (table k ls))
      (ap (list_any (λ (r : Row). is_on r.holder u)) (t o.0) ∙ o.1) in
      among part.Server u (object o.0) (λ q same. ap (λ z. not (is_entry z)) same) (table k ls) r.0 r.1 r.2

  -- what naming does at an end leaves them
  pub told_still : (u : Uid) (f : End) (p : Pair) (o : Naming) → AllByRecursion IsStill (naming.told u f p o).outs
  told_still u f p o =
      let d = cond {A = Did Naming} (is_on o.told u) (did_nothing o) (told_new u (naming.taken_end u f o) p o) in
      all_append IsStill (own_entries u f p) d.outs (own f (is_prepared u p)) (by (is_on o.told u))
    where
      own : (g : End) (b : Bool) → AllByRecursion IsStill (cond b (end_entries u g) [])
      own g false = tt
      own ending.Abort true = (tt, (refl, tt))
      own ending.Commit true = (tt, (refl, tt))

      each_still : (us : List Uid) → AllByRecursion IsStill (flat_map (λ act. end_entries act ending.Abort) us)
      each_still [] = tt
      each_still (a ∷ us) = all_append IsStill (end_entries a ending.Abort) (flat_map (λ act. end_entries act ending.Abort) us)
          (tt, (refl, tt)) (each_still us)

      gone : (g : End) → AllByRecursion IsStill (end_orphans u g p o)
      gone ending.Abort = each_still (orphans u p o)
      gone ending.Commit = tt

      line : (g : End) (b : Bool) → AllByRecursion IsStill (cond b (Say (body.Told 1 u g part.Naming) ∷ []) [])
      line g true = (refl, tt)
      line g false = tt

      by : (b : Bool) → AllByRecursion IsStill (cond {A = Did Naming} b (did_nothing o) (told_new u (naming.taken_end u f o) p o)).outs
      by true = tt
      by false = all_append IsStill (end_orphans u (naming.taken_end u f o) p o) (end_lines u (naming.taken_end u f o) o)
          (gone (naming.taken_end u f o)) (line (naming.taken_end u f o) (naming.has_locks u o))

  -- What a store and naming do at an end, where behind it goes on by what is kept by what is done, and by naming's line.
  module _ (T : List Line → Type 0) (keep : (ls : List Line) (b : Body) → stays b ≡ true → T ls → T (ls ++ numbered e (b ∷ []))) (u : Uid)
      (f : End) (fs : List Effect) (rest : (ls : List Line) → T ls → Rowed fs ls) where
    abbrev Both : Option Naming → List Line → Type 0
    Both o ls = T ls × NamesTable o ls

    keep_both : (o : Option Naming) (ls : List Line) (b : Body) → is_done b ≡ true → Both o ls → Both o (ls ++ numbered e (b ∷ []))
    keep_both o ls b is t = (keep ls b (done_stays b is) t.0, done_names o ls b is t.1)

    ends_done : (v : Uid) (g : End) → AllByRecursion IsDone (end_entries v g)
    ends_done v ending.Abort = (tt, (refl, tt))
    ends_done v ending.Commit = (tt, (refl, tt))

    told_names : (p : Pair) (o : Naming) → Rise o → (ls : List Line) → Both (Some o) ls → Rowed ((naming.told u f p o).outs ++ fs) ls
    told_names p o rise ls t =
        let d = cond {A = Did Naming} (is_on o.told u) (did_nothing o) (told_new u (naming.taken_end u f o) p o) in
        subst (λ es. Rowed es ls) (sym (append_assoc (own_entries u f p) d.outs fs))
        (behind (Both (Some o)) (keep_both (Some o)) (own_entries u f p) (d.outs ++ fs) (own (is_prepared u p)) (by (is_on o.told u)) ls t)
      where
        g : End
        g = naming.taken_end u f o

        own : (b : Bool) → AllByRecursion IsDone (cond b (end_entries u f) [])
        own false = tt
        own true = ends_done u f

        each_done : (us : List Uid) → AllByRecursion IsDone (flat_map (λ act. end_entries act ending.Abort) us)
        each_done [] = tt
        each_done (a ∷ us) = all_append IsDone (end_entries a ending.Abort) (flat_map (λ act. end_entries act ending.Abort) us)
            (ends_done a ending.Abort) (each_done us)

        gone : (h : End) → AllByRecursion IsDone (end_orphans u h p o)
        gone ending.Abort = each_done (orphans u p o)
        gone ending.Commit = tt

        line : (b : Bool) → naming.has_locks u o ≡ b → (ms : List Line) → Both (Some o) ms →
            Rowed (cond b (Say (body.Told 1 u (naming.taken_end u f o) part.Naming) ∷ []) [] ++ fs) ms
        line false is ms b = rest ms b.0
        line true is ms b = (
          names_row o u rise is ms b.1 (naming.taken_end u f o),
          rest (ms ++ numbered e (body.Told 1 u (naming.taken_end u f o) part.Naming ∷ []))
              (keep ms (body.Told 1 u (naming.taken_end u f o) part.Naming) refl b.0),
        )

        by : (b : Bool) (ms : List Line) → Both (Some o) ms →
            Rowed ((cond {A = Did Naming} b (did_nothing o) (told_new u (naming.taken_end u f o) p o)).outs ++ fs) ms
        by true ms b = rest ms b.0
        by false ms b =
            let first = end_orphans u (naming.taken_end u f o) p o in
            let last = end_lines u (naming.taken_end u f o) o in
            subst (λ es. Rowed es ms) (sym (append_assoc first last fs))
            (behind (Both (Some o)) (keep_both (Some o)) first (last ++ fs) (gone (naming.taken_end u f o)) (line (naming.has_locks u o)
            refl) ms b)

    fronts_rowed : (d : Disk) (t : Parts) → ((o : Naming) → t.naming ≡ Some o → Rise o) → (ls : List Line) → T ls → NamesTable t.naming ls →
        Rowed ((store_told k u f d.store ++ (naming_told u f d.names t.naming).outs) ++ fs) ls
    fronts_rowed d t rise ls its names =
        let o = (naming_told u f d.names t.naming).outs in
        subst (λ es. Rowed es ls) (sym (append_assoc (store_told k u f d.store) o fs))
        (behind (Both t.naming) (keep_both t.naming) (store_told k u f d.store) (o ++ fs) (store f (is_prepared u d.store))
        (λ ms b. named t.naming refl ms b) ls (its, names))
      where
        store : (g : End) (b : Bool) → AllByRecursion IsDone (cond b (end_states k u g) [])
        store g false = tt
        store ending.Abort true = (tt, (refl, tt))
        store ending.Commit true = (tt, (refl, tt))

        named : (o : Option Naming) → t.naming ≡ o → (ms : List Line) → Both o ms → Rowed ((naming_told u f d.names o).outs ++ fs) ms
        named None is ms b = rest ms b.0
        named (Some o) is ms b = told_names d.names o (rise o is) ms b

  -- a server without objects says nothing of ends
  ends_free : (es : List (Uid × End)) (s : Server) → IsEmpty s → AreFree (apply_ends k es s).outs
  ends_free [] s none = tt
  ends_free (p ∷ es) s none =
      let d = end_one k p.0 p.1 s in
      all_append (SaidIn IsFreeLine) d.outs (apply_ends k es d.part).outs (by (is_told p.0 s))
      (ends_free es d.part (one_empty k p.0 p.1 s none))
    where
      by : (b : Bool) → AreFree (cond {A = Did Server} b (did_nothing s) (end_new k p.0 (server.taken_end p.0 p.1 s) s)).outs
      by true = tt
      by false = subst (λ m. AreFree (cond (list_any (λ (e : ℕ × Copy). holds p.0 e.1.rows) m)
          (Say (body.Told k p.0 (server.taken_end p.0 p.1 s) part.Server) ∷ []) [])) (sym none) tt

  -- ends one after another
  ends_rowed : (es : List (Uid × End)) (s : Server) (fs : List Effect) → AreOfActions es → AreKeyed s.objects → AreFree fs →
      (ls : List Line) → IsTableOf s ls → Rowed ((apply_ends k es s).outs ++ fs) ls
  ends_rowed [] s fs of keyed rest ls t = free_rowed fs ls rest
  ends_rowed (p ∷ es) s fs of keyed rest ls t = by out
      (ends_rowed es (end_one k p.0 p.1 s).part fs of.1 (keyed_one k p.0 p.1 s keyed) rest)
    where
      d : Did Server
      d = end_one k p.0 p.1 s

      Out : Did Server → Type 0
      Out v = (v.outs ≡ []) ⊎ ((f : End) × (v.outs ≡ Say (body.Told k p.0 f part.Server) ∷ []) × (server.has_locks p.0 s ≡ true))

      out : Out d
      out = told (is_told p.0 s)
        where
          f : End
          f = server.taken_end p.0 p.1 s

          lines : (c : Bool) → server.has_locks p.0 s ≡ c →
              (cond c (Say (body.Told k p.0 f part.Server) ∷ []) [] ≡ [])
              ⊎ ((f : End) × (cond c (Say (body.Told k p.0 (server.taken_end p.0 p.1 s) part.Server) ∷ []) [] ≡ Say
              (body.Told k p.0 f part.Server) ∷ []) × (server.has_locks p.0 s ≡ true))
          lines true is = inr (f, refl, is)
          lines false is = inl refl

          told : (b : Bool) → Out (cond b (did_nothing s) (end_new k p.0 (server.taken_end p.0 p.1 s) s))
          told true = inl refl
          told false = lines (server.has_locks p.0 s) refl

      rows_then : (h : Words.Holders) (x : ℕ) → server_rows x d.part ≡ Words.rows_after h k part.Server (object x) d.outs (server_rows x s)
      rows_then h x = one_end h k x p.0 p.1 s of.0

      by : Out d → ((ms : List Line) → IsTableOf d.part ms → Rowed ((apply_ends k es d.part).outs ++ fs) ms) →
          Rowed ((d.outs ++ (apply_ends k es d.part).outs) ++ fs) ls
      by (inl none) ih = subst (λ outs. Rowed ((outs ++ (apply_ends k es d.part).outs) ++ fs) ls) (sym none)
          (ih ls (λ x. t x ∙ sym (rows_then (holders_in false []) x
          ∙ ap (λ outs. Words.rows_after (holders_in false []) k part.Server (object x) outs (server_rows x s)) none)))
      by (inr one) ih =
          let b = body.Told k p.0 one.0 part.Server in
          let h = holders_in (e == up_of k ls) (acts ls) in
          subst (λ outs. Rowed ((outs ++ (apply_ends k es d.part).outs) ++ fs) ls) (sym one.1) (
            row_of s p.0 keyed one.2 ls t one.0,
            ih (ls ++ numbered e (b ∷ [])) (λ x. own_line k part.Server (object x) refl e b ls
                ∙ ap (rows_by h k part.Server (object x) b) (t x)
                ∙ sym (rows_then h x ∙ ap (λ outs. Words.rows_after h k part.Server (object x) outs (server_rows x s)) one.1)),
          )

  -- ---- one message

  abbrev pub RowedBy : Handled → List Line → Type 0
  RowedBy (Void outs) ls = ⊤
  RowedBy (Took v outs) ls = Rowed outs ls

  free_by : (x : Handled) (ls : List Line) → SaysBy IsFreeLine others_free x → RowedBy x ls
  free_by (Void outs) ls all = tt
  free_by (Took v outs) ls all = free_rowed outs ls all

  module _ (d : Disk) (t : Parts) (from : ℕ) (ls : List Line) (keyed : AreKeyed (let s = t.server in s.objects))
      (shown : IsTableOf t.server ls) (rise : (o : Naming) → t.naming ≡ Some o → Rise o) (named : NamesTable t.naming ls) where
    abbrev Then : List Effect → Type 0
    Then outs = (fs : List Effect) → AreFree fs → Rowed (outs ++ fs) ls

    answer_rowed : (h : Head) (v : Parts) (outs : List Effect) (r : Option Reply) → Then outs → RowedBy (sends_answer from h v outs r) ls
    answer_rowed h v outs None rest = tt
    answer_rowed h v outs (Some r) rest = rest (Send from (response (asked_by h) r) ∷ []) (tt, tt)

    served_rowed : {Z R : Type 0} (h : Head) (put : Z → Parts) (say : R → Reply) (r : Served Z R) → Then r.outs →
        RowedBy (served from h put say r) ls
    served_rowed h put say r rest = answer_rowed h (put r.part) r.outs (option_map say r.reply) rest

    nothing : Then []
    nothing fs all = free_rowed fs ls all

    invoke_rowed : (h : Head) (x : ℕ) (b : Binding) (i : ℕ) (es : List (Uid × End)) (o : Op) → AreOfActions es →
        Then (server.invoke k h x b i es o t.server).outs
    invoke_rowed h x b i es o of =
        by (has_ended h.path s || is_below h.req (at_uid (actor h.path) s.kept)) (changed_by i x b s) (at_uid (actor h.path) s.kept)
      where
        s : Server
        s = t.server

        new : Then (invoke_new k h x es o s).outs
        new fs all =
            let v = (apply_ends k es s).part in
            let asked = (on_copy x (invoke_copy k h.path x o) v (at_number x v.objects)).outs in
            subst (λ outs. Rowed outs ls) (sym (append_assoc (apply_ends k es s).outs asked fs))
            (ends_rowed es s (asked ++ fs) of keyed (all_append (SaidIn IsFreeLine) asked fs
            (asked_all IsFreeLine others_free k h x o v (at_number x v.objects)) all) ls shown)

        again : (q : Option Kept) → Then (invoke_kept k h x es o s q).outs
        again None = new
        again (Some q) = one (q.req == h.req)
          where
            one : (c : Bool) → Then (cond {A = Served Server InvokedReply} c (reply s q.answer) (invoke_new k h x es o s)).outs
            one true = nothing
            one false = new

        now : (w : Option What) → Then (invoke_now k h x es o s w).outs
        now (Some w) = nothing
        now None = again (at_uid (actor h.path) s.kept)

        by : (c : Bool) (w : Option What) (q : Option Kept) →
            Then (cond {A = Served Server InvokedReply} c (void s) (invoke_now k h x es o s w)).outs
        by true w q = nothing
        by false w q = now w

    vote_rowed : (p : Words.Path) (i : ℕ) (ties : List (ℕ × Binding)) (es : List (Uid × End)) → AreOfActions es →
        Then (server.vote k p i ties es t.server).outs
    vote_rowed p i ties es of = by (has_ended p s) (either (other_inc i s.inc) (first_unbound ties s))
      where
        s : Server
        s = t.server

        by : (c : Bool) (w : Option What) → Then (cond {A = Served Server VotedReply} c (void s) (vote_now k (actor p) es s w)).outs
        by true w = nothing
        by false (Some w) = nothing
        by false None = λ fs all. ends_rowed es s fs of keyed all ls shown

    serve_rowed : (h : Head) (a : Ask) → AreOfActions (ends_in a) → RowedBy (serve k d t from h a) ls
    serve_rowed h (ask.Invoke x b i es o) of = served_rowed h (with_server t) Reply.Invoked (server.invoke k h x b i es o t.server)
        (invoke_rowed h x b i es o of)
    serve_rowed h (ask.Vote i ties es) of = served_rowed h (with_server t) Reply.Voted (server.vote k h.path i ties es t.server)
        (vote_rowed h.path i ties es of)
    serve_rowed h a of = free_by (serve k d t from h a) ls
        (serve_all IsFreeLine others_free k d t from h a (λ u g f c. absurd (no_end (u, g) c)) (free_prepared k h a))

    told_rowed : (ack : Bool) (es : List (Uid × End)) (u : Uid) (f : End) → AreOfActions es → RowedBy (handle_told k d t from ack es u f) ls
    told_rowed ack es u f of =
        subst (λ outs. Rowed outs ls) (sym (append_assoc fronts (apply_ends k es s).outs (ack_told from u ack)))
        (fronts_rowed (IsTableOf s) (stays_table s) u f ((apply_ends k es s).outs ++ ack_told from u ack)
        (λ ms shows. ends_rowed es s (ack_told from u ack) of keyed (acks ack) ms shows) d t rise ls shown named)
      where
        s : Server
        s = t.server

        fronts : List Effect
        fronts = store_told k u f d.store ++ (naming_told u f d.names t.naming).outs

        acks : (b : Bool) → AreFree (ack_told from u b)
        acks true = (tt, tt)
        acks false = tt

    -- of what stands behind a request or an answer of another kind no line is of a server's end
    other_rowed : (m : Message) → AreOfActions (told_by m) → RowedBy (handle_other k d t from m) ls
    other_rowed (message.Told m) of = by (last_end m.ends)
      where
        by : (o : Option (Uid × End)) → RowedBy (handle_ends k d t from m.ack m.ends o) ls
        by None = tt
        by (Some p) = told_rowed m.ack m.ends p.0 p.1 of
    other_rowed (message.Invoke m) of = tt
    other_rowed (message.Vote m) of = tt
    other_rowed m of = free_by (handle_other k d t from m) ls (other_all IsFreeLine others_free k d t from m (record {
      server = λ u g f c. absurd (⊎_elim {C = ⊥} (no_end (u, g)) (no_end (u, g)) c);
      naming = λ u g f c. absurd (no_end (u, g) c);
      store = λ u g c. absurd (no_end (u, g) c);
      names = λ u g c. absurd (no_end (u, g) c);
      orphans = λ u g o act c. absurd (no_end (u, g) c);
      prepares = λ h a is. free_prepared k h a;
    }))

    pub message_rowed : (m : Message) → AreOfActions (brought m) → AreOfActions (told_by m) → RowedBy (handle k d t from m) ls
    message_rowed m brings tells = by (asks m) refl
      where
        answered : (a : Option (Asked × Reply)) → RowedBy (handle_answer k d t from m a) ls
        answered None = other_rowed m tells
        answered (Some a) = let r = heard from a.0 a.1 d.intents t.coord in
            free_by (Words.by_reply (with_coord t r.part) r.outs r.reply) ls
            (replied IsFreeLine others_free k d t from (with_coord t r.part) r.outs r.reply (heard_own from a.0 a.1 d.intents t.coord))

        by : (o : Option (Head × Ask)) → asks m ≡ o → RowedBy (handle_ask k d t from m o) ls
        by None is = answered (answers m)
        by (Some a) is = serve_rowed a.0 a.1 (subst (λ o. AreOfActions (brought_by o)) is brings)

  -- where nothing is asked or answered, at a server without objects
  module _ (d : Disk) (t : Parts) (from : ℕ) (ls : List Line) (none : IsEmpty t.server) (rise : (o : Naming) → t.naming ≡ Some o → Rise o)
      (named : NamesTable t.naming ls) where
    other_silent : (m : Message) → RowedBy (handle_other k d t from m) ls
    other_silent (message.Told m) = by (last_end m.ends)
      where
        acks : (u : Uid) (b : Bool) → AreFree (ack_told from u b)
        acks u true = (tt, tt)
        acks u false = tt

        by : (o : Option (Uid × End)) → RowedBy (handle_ends k d t from m.ack m.ends o) ls
        by None = tt
        by (Some p) =
            let fronts = store_told k p.0 p.1 d.store ++ (naming_told p.0 p.1 d.names t.naming).outs in
            let outs = (apply_ends k m.ends t.server).outs in
            subst (λ es. Rowed es ls) (sym (append_assoc fronts outs (ack_told from p.0 m.ack)))
            (fronts_rowed (λ ms. ⊤) (λ ms b is its. tt) p.0 p.1 (outs ++ ack_told from p.0 m.ack) (λ ms its. free_rowed
            (outs ++ ack_told from p.0 m.ack) ms (all_append (SaidIn IsFreeLine) outs (ack_told from p.0 m.ack)
            (ends_free m.ends t.server none) (acks p.0 m.ack))) d t rise ls tt named)
    other_silent (message.Invoke m) = tt
    other_silent (message.Vote m) = tt
    other_silent m = free_by (handle_other k d t from m) ls (other_all IsFreeLine others_free k d t from m (record {
      server = λ u g f c. absurd (⊎_elim {C = ⊥} (no_end (u, g)) (no_end (u, g)) c);
      naming = λ u g f c. absurd (no_end (u, g) c);
      store = λ u g c. absurd (no_end (u, g) c);
      names = λ u g c. absurd (no_end (u, g) c);
      orphans = λ u g o act c. absurd (no_end (u, g) c);
      prepares = λ h a is. free_prepared k h a;
    }))

    pub silent_rowed : (m : Message) → asks m ≡ None → answers m ≡ None → RowedBy (handle k d t from m) ls
    silent_rowed m asks_none answers_none = subst (λ z. RowedBy z ls)
        (sym (ap (handle_ask k d t from m) asks_none ∙ ap (handle_answer k d t from m) answers_none)) (other_silent m)
