-- The listed stores and the entry of an object, by the order of decisions, and after the next commit.
use Rattle.arj_law.proofs.Terms
use Terms.{◌≡◌, ℕ, ◌+◌, List, [], ◌∷◌, ◌++◌, length, map, Bool, true, false, cond, not, ◌&&◌, ◌==◌, Option, Some, None, refl, sym, ◌∙◌, ap}
use Terms.{filter, list_all, filter_map, eq-eqb, eqb-true, and_parts, filter-append, entry, Body, Line, Header, Act, Placed, acts}
use Terms.{committed, committed_of, has_end, top_in, chain_in, Top, ids, Inclusion, included, included_of, excluded_of, joins_by, joins_of}
use Terms.{leaves_of, is_among, increasing, object_line, servers_of_line, listed, listed_after, listed_from, serial_tops, changers}
use Terms.{changer_from, uid_of_id, same_list, entry_payload, more, Uid}
use Terms.class
use Terms.body
use Rattle.arj_law.proofs.{Commit.chain_stays, Common.never, JoinedLists.filter_map_same, Reading.read_none, Reading.read_some}
use Rattle.arj_model.specs.{Last.entry_from}
use Rattle.arj_start.specs.{Start.Mark, Start.Marks, Start.format_at}
use Rattle.arj_law.specs.Growth.{CommitsTop, IdleInPlace, first_stores, AreDecidedInOrder, entry_by, IncludesNoneBelow}
use Rattle.std.proofs.lemmas.List.Folds.{list_all-map}

pub same_is : (ms ns : List ℕ) → same_list ms ns ≡ true → ms ≡ ns
same_is [] [] e = refl
same_is [] (n ∷ ns) e = never false e refl
same_is (m ∷ ms) [] e = never false e refl
same_is (m ∷ ms) (n ∷ ns) e = let p = and_parts (m == n) (same_list ms ns) e in (λ i. eqb-true m n p.0 i ∷ same_is ms ns p.1 i)

pub same_itself : (ns : List ℕ) → same_list ns ns ≡ true
same_itself [] = refl
same_itself (n ∷ ns) = (λ i. eq-eqb n n refl i && same_list ns ns) ∙ same_itself ns

-- Tops that change nothing may be left out.
module _ (lines : List Line) (x : ℕ) (counts : Top → Bool) where
  only_those : (stores : List ℕ) (ts : List Top) → IdleInPlace lines x counts stores ts →
      listed_from lines x stores ts ≡ listed_from lines x stores (filter counts ts)
  only_those stores [] h = refl
  only_those stores (t ∷ ts) h = by (only_those (listed_after lines x stores t) ts h.1) (counts t) refl
    where
      next : List ℕ
      next = listed_after lines x stores t

      by : listed_from lines x next ts ≡ listed_from lines x next (filter counts ts) → (b : Bool) → counts t ≡ b →
          listed_from lines x next ts ≡ listed_from lines x stores (cond b (t ∷ filter counts ts) (filter counts ts))
      by ih true e = ih
      by ih false e = ih ∙ (λ i. listed_from lines x (h.0 e i) (filter counts ts))

  only_changers : (stores : List ℕ) (ts : List Top) → IdleInPlace lines x counts stores ts →
      changers lines x stores ts ≡ changers lines x stores (filter counts ts)
  only_changers stores [] h = refl
  only_changers stores (t ∷ ts) h = by (only_changers (listed_after lines x stores t) ts h.1) (counts t) refl
    where
      next : List ℕ
      next = listed_after lines x stores t

      rest : List Top
      rest = filter counts ts

      changed : (b : Bool) → same_list next stores ≡ b → changers lines x next ts ≡ changers lines x next rest → cond b (changers lines x
          stores ts) (t ∷ changers lines x next ts) ≡ cond b (changers lines x stores rest) (t ∷ changers lines x next rest)
      changed true e ih =
          (λ i. changers lines x (sym (same_is next stores e) i) ts) ∙ ih ∙ (λ i. changers lines x (same_is next stores e i) rest)
      changed false e ih = ap (λ us. t ∷ us) ih

      by : changers lines x next ts ≡ changers lines x next rest → (b : Bool) → counts t ≡ b
          → cond (same_list next stores) (changers lines x stores ts) (t ∷ changers lines x next ts)
          ≡ changers lines x stores (cond b (t ∷ rest) rest)
      by ih true e = changed (same_list next stores) refl ih
      by ih false e =
          let idle : next ≡ stores = h.0 e in
          (λ i. cond (same_list (idle i) stores) (changers lines x stores ts) (t ∷ changers lines x next ts))
          ∙ (λ i. cond (same_itself stores i) (changers lines x stores ts) (t ∷ changers lines x next ts))
          ∙ (λ i. changers lines x (sym idle i) ts) ∙ ih ∙ (λ i. changers lines x (idle i) rest)

pub listed_decided : (header : Header) (lines : List Line) (x : ℕ) (counts : Top → Bool) (decided : List Top) →
    AreDecidedInOrder header lines x counts decided
    → listed header lines x ≡ listed_from lines x (first_stores header x) (filter counts decided)
listed_decided header lines x counts decided h =
    only_those lines x counts (first_stores header x) (serial_tops lines) h.idle ∙ ap (listed_from lines x (first_stores header x)) h.order

pub entry_decided : (header : Header) (marks : Marks) (lines : List Line) (x : ℕ) (counts : Top → Bool) (decided : List Top) →
    AreDecidedInOrder header lines x counts decided
    → entry_from header marks lines x ≡ entry_by header marks lines x (filter counts decided)
entry_decided header marks lines x counts decided h =
    let mark : Mark = marks.entries x in
    let changed = only_changers lines x counts (first_stores header x) (serial_tops lines) h.idle
    ∙ ap (changers lines x (first_stores header x)) h.order in
    (λ i. record {
      uid = entry x;
      class = class.Entry;
      version = mark.version + length (changed i);
      writer = changer_from (acts lines) mark.writer (changed i);
      payload = entry_payload (servers_of_line (object_line header x)) (listed_decided header lines x counts decided h i);
      format = format_at header.format (mark.version + length (changed i));
    })

-- What a commit leaves of the stores that earlier tops excluded and included.

module _ (lines : List Line) (event top : ℕ) where
  join_stays : (id x : ℕ) (i : Placed Inclusion) (o : Option Act) → is_among (ids (chain_in i.it.path)) top ≡ false
      → joins_by (committed lines ++ (record { at = 0 + length lines; it = top }) ∷ []) id x i o ≡ joins_by (committed lines) id x i o
  join_stays id x i None e = refl
  join_stays id x i (Some t) e =
      let after : List (Placed ℕ) = committed lines ++ (record { at = 0 + length lines; it = top }) ∷ [] in
      let same : list_all (λ a. has_end after a.id) (chain_in i.it.path) ≡ list_all (λ a. has_end (committed lines) a.id)
      (chain_in i.it.path) =
      sym (list_all-map (has_end after) (λ a. a.id) (chain_in i.it.path))
      ∙ chain_stays (committed lines) (0 + length lines) top (ids (chain_in i.it.path)) e
      ∙ list_all-map (has_end (committed lines)) (λ a. a.id) (chain_in i.it.path) in
      (λ k. cond ((t.id == id) && ((i.it.x == x) && same k)) (Some i.it.node) None)

  joins_stay : (b : Body) → CommitsTop lines top b → IncludesNoneBelow lines top → (id x : ℕ) →
      joins_of (more lines (record { event = event; body = b })) id x ≡ joins_of lines id x
  joins_stay (body.Committed l) commits h id x =
      (λ k. filter_map (λ i. joins_by (read_some committed_of lines (record { event = event; body = body.Committed l }) top commits k) id x
      i (top_in i.it.path)) (read_none included_of lines (record { event = event; body = body.Committed l }) refl k))
      ∙ filter_map_same (λ i. is_among (ids (chain_in i.it.path)) top ≡ false)
      (λ i. joins_by (committed lines ++ (record { at = 0 + length lines; it = top }) ∷ []) id x i (top_in i.it.path))
      (λ i. joins_by (committed lines) id x i (top_in i.it.path))
      (λ i e. join_stays id x i (top_in i.it.path) e) (included lines) h
  joins_stay (body.Recovered n u) commits h id x =
      (λ k. filter_map (λ i. joins_by (read_none committed_of lines (record { event = event; body = body.Recovered n u }) refl k) id x i
      (top_in i.it.path)) (read_none included_of lines (record { event = event; body = body.Recovered n u }) refl k))
  joins_stay b commits h id x = absurd commits

  leaves_stay : (b : Body) → CommitsTop lines top b → (id x : ℕ) →
      leaves_of (more lines (record { event = event; body = b })) id x ≡ leaves_of lines id x
  leaves_stay (body.Committed l) commits id x = (λ k. map (λ e. e.it.node) (filter (λ e. (e.it.top == id) && (e.it.x == x))
      (read_none excluded_of lines (record { event = event; body = body.Committed l }) refl k)))
  leaves_stay (body.Recovered n u) commits id x = (λ k. map (λ e. e.it.node) (filter (λ e. (e.it.top == id) && (e.it.x == x))
      (read_none excluded_of lines (record { event = event; body = body.Recovered n u }) refl k)))
  leaves_stay b commits id x = absurd commits

pub listed_append : (lines : List Line) (x : ℕ) (stores : List ℕ) (ts : List Top) (t : Top) →
    listed_from lines x stores (ts ++ t ∷ []) ≡ listed_after lines x (listed_from lines x stores ts) t
listed_append lines x stores [] t = refl
listed_append lines x stores (u ∷ ts) t = listed_append lines x (listed_after lines x stores u) ts t

pub changers_append : (lines : List Line) (x : ℕ) (stores : List ℕ) (ts us : List Top) →
    changers lines x stores (ts ++ us) ≡ changers lines x stores ts ++ changers lines x (listed_from lines x stores ts) us
changers_append lines x stores [] us = refl
changers_append lines x stores (t ∷ ts) us =
    by (changers_append lines x stores ts us) (changers_append lines x next ts us) (same_list next stores) refl
  where
    next : List ℕ
    next = listed_after lines x stores t

    by : changers lines x stores (ts ++ us) ≡ changers lines x stores ts ++ changers lines x (listed_from lines x stores ts) us →
        changers lines x next (ts ++ us) ≡ changers lines x next ts ++ changers lines x (listed_from lines x next ts) us
        → (b : Bool) → same_list next stores ≡ b
        → cond b (changers lines x stores (ts ++ us)) (t ∷ changers lines x next (ts ++ us))
        ≡ cond b (changers lines x stores ts) (t ∷ changers lines x next ts) ++ changers lines x (listed_from lines x next ts) us
    by ih own true e =
        ih ∙ (λ i. changers lines x stores ts ++ changers lines x (listed_from lines x (sym (same_is next stores e) i) ts) us)
    by ih own false e = ap (λ vs. t ∷ vs) own

pub last_of_append : (us : List Act) (w : Uid) (ts : List Top) (t : Top) → changer_from us w (ts ++ t ∷ []) ≡ uid_of_id us t.id
last_of_append us w [] t = refl
last_of_append us w (u ∷ ts) t = last_of_append us (uid_of_id us u.id) ts t

-- The list and the entry after the commit of this top.
module _ (header : Header) (lines : List Line) (event : ℕ) (b : Body) (t : Top) (x : ℕ) (commits : CommitsTop lines t.id b)
    (h : IncludesNoneBelow lines t.id) where
  abbrev pub others : List Line
  others = more lines (record { event = event; body = b })

  abbrev first : List ℕ
  first = first_stores header x

  after_same : (stores : List ℕ) (u : Top) → listed_after others x stores u ≡ listed_after lines x stores u
  after_same stores u =
      (λ i. filter (λ s. not (is_among (leaves_stay lines event t.id b commits u.id x i) s)) stores
      ++ increasing (filter (λ s. not (is_among (leaves_stay lines event t.id b commits u.id x i) s))
      (joins_stay lines event t.id b commits h u.id x i)))

  changers_same : (stores : List ℕ) (ts : List Top) → changers others x stores ts ≡ changers lines x stores ts
  changers_same stores [] = refl
  changers_same stores (u ∷ ts) =
      (λ i. cond (same_list (after_same stores u i) stores) (changers_same stores ts i)
      (u ∷ changers_same (listed_after others x stores u) ts i))
      ∙ (λ i. cond (same_list (listed_after lines x stores u) stores) (changers lines x stores ts)
      (u ∷ changers lines x (after_same stores u i) ts))

  module _ (counts : Top → Bool) (decided : List Top) (before : AreDecidedInOrder header lines x counts decided)
      (after : AreDecidedInOrder header others x counts (decided ++ t ∷ [])) where
    abbrev front : List Top
    front = filter counts decided

    abbrev own : List Top
    own = cond (counts t) (t ∷ []) []

    lists : listed_from lines x first front ≡ listed header lines x
    lists = sym (listed_decided header lines x counts decided before)

    whole : filter counts (decided ++ t ∷ []) ≡ front ++ own
    whole = filter-append counts decided (t ∷ [])

    changed : changers others x first (filter counts (decided ++ t ∷ []))
        ≡ changers lines x first front ++ changers lines x (listed header lines x) own
    changed = ap (changers others x first) whole ∙ changers_same first (front ++ own) ∙ changers_append lines x first front own
        ∙ (λ i. changers lines x first front ++ changers lines x (lists i) own)
