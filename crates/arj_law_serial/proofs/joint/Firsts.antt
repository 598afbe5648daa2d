-- The header's object, and the machine of it as a format leaves it.
use Rattle.arj_law_parts.proofs.Words
use Words.{◌≡◌, ◌⊎◌, ◌==◌, ◌||◌, ◌<◌, ℕ, List, [], ◌∷◌, true, Option, Some, None, refl, sym, ◌∙◌, ap, subst, inl, inr, arith, length}
use Words.{is_some, map, eqb-true, ◌&&◌, nat_le, nat_lt, AllByRecursion, list_all, list_any, and_parts, nat_tests, entry}
use Words.{object, In as Among, in_find, Node, node_by, numbers_to, at_place, Header, ObjectLine, Start, IsFormed}
use Words.{same_number, see, world_from}
use Words.order
use Rattle.arj_law_serial.proofs.Terms
use Terms.{HeaderFits, STORES, is_distinct, object_line, stores_of_line, value_of_line, World, Packed, decided, entry_in}
use Terms.{last, last_entry, last_in, has, some_is, SeesEntry, IsLine, packed, packed_entry, Kinds, SeesDisks, SeesStore, first_at}
use Terms.{has_same, place_free, BeginsSo, content_of, disk_by, marked}
use Rattle.arj_journal.specs.ScriptForm.{ObjectLineInForm, are_by_number}
use Rattle.arj_start.specs.Start.{format_at}
use Rattle.arj_law_disk.specs.machine.State.{State, effective, effective_by}
use Rattle.arj_law_disk_view.proofs.view.FirstSeen.{start_seen}
use Rattle.arj_law_disk_view.specs.view.Formats.{HasObject}
use Rattle.arj_text.specs.Fields.{are_nodes}
use Rattle.arj_law_disk_view.proofs.view.FirstSeen as first

-- ---- the header's lines

pub line_in : (o : ObjectLine) (os : List ObjectLine) → Among o os → IsLine o os
line_in o [] i = absurd i
line_in o (p ∷ ps) (inl same) = inl same
line_in o (p ∷ ps) (inr more) = inr (line_in o ps more)

-- all behind a line have greater numbers
all_above : (p o : ObjectLine) (os : List ObjectLine) → are_by_number (p ∷ os) ≡ true → IsLine o os → p.x < o.x
all_above p o [] ordered i = absurd i
all_above p o (q ∷ qs) ordered i = by (and_parts (nat_lt p.x q.x) (are_by_number (q ∷ qs)) ordered) i (all_above q o qs)
  where
    by : (nat_lt p.x q.x ≡ true) × (are_by_number (q ∷ qs) ≡ true) → (q ≡ o) ⊎ IsLine o qs →
        (are_by_number (q ∷ qs) ≡ true → IsLine o qs → q.x < o.x) → p.x < o.x
    by b (inl same) ih = subst (λ (r : ObjectLine). p.x < r.x) same (grind (arith, nat_tests, b.0))
    by b (inr more) ih = let more_above : q.x < o.x = ih b.1 more in let above : p.x < q.x = grind (arith, nat_tests, b.0) in
        omega (arith, more_above, above)

behind : (p : ObjectLine) (os : List ObjectLine) → are_by_number (p ∷ os) ≡ true → are_by_number os ≡ true
behind p [] ordered = refl
behind p (q ∷ qs) ordered = (and_parts (nat_lt p.x q.x) (are_by_number (q ∷ qs)) ordered).1

pub one_line : (os : List ObjectLine) → are_by_number os ≡ true → (o p : ObjectLine) → IsLine o os → IsLine p os → o.x ≡ p.x → o ≡ p
one_line [] ordered o p i j same = absurd i
one_line (q ∷ qs) ordered o p (inl a) (inl b) same = sym a ∙ b
one_line (q ∷ qs) ordered o p (inl a) (inr j) same = let less : q.x < p.x = all_above q p qs ordered j in
    let is : q.x ≡ o.x = ap (λ (r : ObjectLine). r.x) a in absurd (omega (arith, less, is, same))
one_line (q ∷ qs) ordered o p (inr i) (inl b) same = let less : q.x < o.x = all_above q o qs ordered i in
    let is : q.x ≡ p.x = ap (λ (r : ObjectLine). r.x) b in absurd (omega (arith, less, is, same))
one_line (q ∷ qs) ordered o p (inr i) (inr j) same = one_line qs (behind q qs ordered) o p i j same

pub form_of : (n : ℕ) (o : ObjectLine) (os : List ObjectLine) → AllByRecursion (ObjectLineInForm n) os → IsLine o os → ObjectLineInForm n o
form_of n o [] all i = absurd i
form_of n o (p ∷ ps) all (inl same) = subst (ObjectLineInForm n) same all.0
form_of n o (p ∷ ps) all (inr more) = form_of n o ps all.1 more

-- the first of nodes in form
first_of : (n most : ℕ) (ns : List ℕ) → are_nodes n most ns ≡ true → (s : ℕ) × (order.has ns s ≡ true) × ((nat_le 1 s && nat_le s n) ≡ true)
first_of n most [] are = absurd (cc are)
first_of n most (s ∷ ss) are =
    let both = and_parts (nat_le 1 (length (s ∷ ss)) && nat_le (length (s ∷ ss)) most)
    (list_all (λ m. nat_le 1 m && nat_le m n) (s ∷ ss) && is_distinct (s ∷ ss)) are in
    let each = and_parts (list_all (λ m. nat_le 1 m && nat_le m n) (s ∷ ss)) (is_distinct (s ∷ ss)) both.1 in (
      s,
      ap (λ b. b || list_any (λ m. m == s) ss) (same_number s),
      (and_parts (nat_le 1 s && nat_le s n) (list_all (λ m. nat_le 1 m && nat_le m n) ss) each.0).0,
    )

-- a store of the object's line is a node
abbrev pub HasStoreThere : (hd : Header) (x : ℕ) → HasObject hd x → Type 0
HasStoreThere hd x o = (nat_le 1 (let s = o.stored in s.0) && nat_le (let s = o.stored in s.0) hd.nodes) ≡ true

module _ (hd : Header) (x : ℕ) (form : HeaderFits hd) where
  line_by : (o : Option ObjectLine) → object_line hd x ≡ o → is_some o ≡ true →
      (h : HasObject hd x) × HasStoreThere hd x h × (object_line hd x ≡ Some (let g = h in g.line))
  line_by None e some = absurd (cc some)
  line_by (Some o) e some =
      let f = in_find (λ (p : ObjectLine). p.x == x) o hd.objects e in
      let i = line_in o hd.objects f.0 in
      let fs = form.objects in
      let fits = form_of hd.nodes o hd.objects fs.0 i in
      let s = first_of hd.nodes STORES o.stores fits.stores in (
        record {
          line = o;
          there = i;
          is = eqb-true o.x x f.1;
          once = λ p j same. one_line hd.objects fs.1 p o j i (same ∙ sym (eqb-true o.x x f.1));
          stored = (s.0, s.1);
        },
        s.2,
        e,
      )

  pub line_there : is_some (object_line hd x) ≡ true →
      (h : HasObject hd x) × HasStoreThere hd x h × (object_line hd x ≡ Some (let g = h in g.line))
  line_there some = line_by (object_line hd x) refl some

-- ---- the machine

module _ (hd : Header) (st : Start) (formed : IsFormed hd st) (x : ℕ) (tops : Kinds) (unwalked : tops.walk ≡ None) (has_it : HasObject hd x)
    (line : object_line hd x ≡ Some has_it.line) (W : World) (sees : SeesDisks x tops W (see [] (world_from hd st)))
    (none : W.disk.tops ≡ []) where
  abbrev started : State
  started = first.S hd st formed x tops has_it

  seen0 : SeesDisks x tops (first.W hd st formed x tops has_it) (see [] (world_from hd st))
  seen0 = start_seen hd st formed x tops has_it unwalked

  -- a node as the run begins
  node_at : (k : ℕ) → is_some (at_place k (map (node_by hd st) (numbers_to hd.nodes))) ≡ true →
      at_place k (map (node_by hd st) (numbers_to hd.nodes)) ≡ Some (node_by hd st k)
  node_at k there = by (at_place k (map (node_by hd st) (numbers_to hd.nodes))) refl there
    where
      by : (o : Option Node) → at_place k (map (node_by hd st) (numbers_to hd.nodes)) ≡ o → is_some o ≡ true → o ≡ Some (node_by hd st k)
      by None e some = absurd (cc some)
      by (Some n) e some = ap Some (sym (first_at hd st k n e))

  module _ (naming : is_some (at_place 1 (map (node_by hd st) (numbers_to hd.nodes))) ≡ true) where
    one_is : at_place 1 (map (node_by hd st) (numbers_to hd.nodes)) ≡ Some (node_by hd st 1)
    one_is = node_at 1 naming

    seen_entry : SeesEntry x (let d = disk_by hd st 1 in d.names) W.disk
    seen_entry = sees.entry (node_by hd st 1) one_is

    entry_free : W.disk.entry_pend ≡ None
    entry_free = let e = seen_entry in
        place_free (entry x) (let d = disk_by hd st 1 in d.names) packed_entry (Some W.disk.entry) W.disk.entry_pend e.pair refl

    entry_same : W.disk.entry ≡ marked (st.marks.entries has_it.line.x) has_it.line.stores
    entry_same =
        let e = seen_entry in
        let f : SeesEntry x (let d = disk_by hd st 1 in d.names) started = seen0.entry (node_by hd st 1) one_is in
        some_is refl (sym e.pair.held_is ∙ f.pair.held_is)

    last_is : last_entry W.disk ≡ marked (st.marks.entries has_it.line.x) has_it.line.stores
    last_is = sym (let w = sees.whole in w.core.effective.entry)
        ∙ ap (λ o. effective_by (decided W.disk) (λ (e : Packed). e) o W.disk.entry) entry_free ∙ entry_same

    first_entry_is : W.disk.first_entry ≡ marked (st.marks.entries has_it.line.x) has_it.line.stores
    first_entry_is = sym (ap (entry_in W.disk.first_entry) none) ∙ last_is

    module _ (s : ℕ) (stored : order.has has_it.line.stores s ≡ true)
        (there : is_some (at_place s (map (node_by hd st) (numbers_to hd.nodes))) ≡ true) where
      seen_store : SeesStore x s (let d = disk_by hd st s in d.store) W.disk
      seen_store = sees.stores s (node_by hd st s) (node_at s there)

      store_free : W.disk.pend s ≡ None
      store_free = let e = seen_store in
          place_free (object x) (let d = disk_by hd st s in d.store) packed (W.disk.held s) (W.disk.pend s) e.pair refl

      listed : has s has_it.line.stores ≡ true
      listed = has_same s has_it.line.stores ∙ stored

      abbrev first_content : List ℕ
      first_content = content_of (format_at hd.format (let m = st.marks.states has_it.line.x in m.version)) has_it.line.value

      store_same : W.disk.held s ≡ Some (marked (st.marks.states has_it.line.x) first_content)
      store_same = let e = seen_store in sym e.pair.held_is ∙ (first.first_is hd st formed x tops has_it).held s listed

      first_is : W.disk.first ≡ marked (st.marks.states has_it.line.x) first_content
      first_is =
          let w = sees.whole in
          let on : has s (last_entry W.disk).content ≡ true = ap (λ (p : Packed). has s p.content) last_is ∙ listed in
          let now : effective W.disk s ≡ Some (last W.disk) = w.core.effective.store s on in
          let held : effective W.disk s ≡ Some (marked (st.marks.states has_it.line.x) first_content) = ap
          (λ o. effective_by (decided W.disk) Some o (W.disk.held s)) store_free ∙ store_same in
          sym (ap (last_in W.disk.first) none) ∙ some_is refl (sym now ∙ held)

      pub begins_so : BeginsSo hd st.marks x W.disk
      begins_so = record {
        state = first_is ∙ (λ i. let m = st.marks.states (has_it.is i) in
            marked m (content_of (format_at hd.format m.version) (value_of_line (sym line i))));
        entry = first_entry_is ∙ (λ i. marked (st.marks.entries (has_it.is i)) (stores_of_line (sym line i)));
      }
