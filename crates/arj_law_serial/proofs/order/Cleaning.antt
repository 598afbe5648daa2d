-- The disks that are seen hold the journal's last state and entry, where nothing is in doubt.
use Rattle.arj_law_parts.proofs.Words
use Words.{◌≡◌, ℕ, ◌==◌, ◌||◌, List, [], ◌∷◌, true, Option, Some, None, refl, ◌∙◌}
use Words.{ap, option_map, ObjectState, entry, object}
use Words.{Line, Header, held_at, holder_of, Node, state_entry, number_tells, Seen}
use Rattle.arj_law_serial.proofs.Terms
use Terms.{entry_payload, first_values, is_among, object_line, servers_of_line}
use Terms.{new_book, AreRight, World, Packed, last, last_entry, has, SeesEntry, packed, packed_entry, Kinds, SeesDisks, SeesStore}
use Terms.{place_free, AreDecided, BeginsSo, HaveForm, IsCleanIn}
use Rattle.arj_law_disk.proofs.machine.Results.{clean}
use Rattle.arj_law_disk.specs.machine.Laws.{IsClean}
use Rattle.arj_law_runs.proofs.journal.Likes.{some_is}
use Rattle.arj_law_serial.proofs.order.{Contents.one_state, Entries.entry_is_last, Entries.stores_back, States.state_is_last, Ties.Ties}
use Rattle.arj_model.specs.{Last.entry_from, Last.last_from, Last.listed}
use Rattle.arj_start.specs.{Start.Marks, Start.format_at}

-- ---- states

pub held_some : (o : Option ObjectState) (p : Packed) (pack : ObjectState → Packed) → option_map pack o ≡ Some p →
    (s : ObjectState) × (o ≡ Some s) × (pack s ≡ p)
held_some None p pack e = absurd (cc e)
held_some (Some s) p pack e = (s, refl, some_is (pack s) p e)

pub has_among : (s : ℕ) (ns : List ℕ) → has s ns ≡ is_among ns s
has_among s [] = refl
has_among s (n ∷ ns) = ap (λ b. (n == s) || b) (has_among s ns)

module _ (header : Header) (lines : List Line) (right : AreRight new_book lines) (tied : Ties (first_values header) lines) (x : ℕ)
    (kinds : Kinds) (W : World) (M : Seen) (sees : SeesDisks x kinds W M) (decided : AreDecided header lines x W.disk.tops)
    (begins : BeginsSo header M.start.marks x W.disk) (form : HaveForm header x M) where
  abbrev marks : Marks
  marks = M.start.marks

  clean_so : IsClean W.disk
  clean_so = clean W sees.whole

  pub state_same : last W.disk ≡ packed (last_from header marks lines x)
  state_same =
      let core = let w = sees.whole in w.core in
      state_is_last header lines right tied x W.disk.first W.disk.tops core.history.chain core.journal.plain decided marks begins.state

  entry_same : last_entry W.disk ≡ packed_entry (entry_from header marks lines x)
  entry_same = entry_is_last header lines x W.disk.first_entry W.disk.tops decided marks begins.entry

  held_is : (s : ℕ) → W.disk.held s ≡ Some (last W.disk) → W.disk.held s ≡ Some (packed (last_from header marks lines x))
  held_is s held = held ∙ ap Some state_same

  entry_free : (n : Node) → M.nodes 1 ≡ Some n → holder_of (entry x) n.disk.names ≡ None → W.disk.entry_pend ≡ None
  entry_free n is free = let e : SeesEntry x n.disk.names W.disk = sees.entry n is in
      place_free (entry x) n.disk.names packed_entry (Some W.disk.entry) W.disk.entry_pend e.pair free

  -- the entry that is held
  entry_held : (n : Node) → M.nodes 1 ≡ Some n → holder_of (entry x) n.disk.names ≡ None →
      held_at (entry x) n.disk.names ≡ Some (entry_from header marks lines x)
  entry_held n is free =
      let e : SeesEntry x n.disk.names W.disk = sees.entry n is in
      let p = e.pair in
      let h = held_some (held_at (entry x) n.disk.names) W.disk.entry packed_entry p.held_is in
      let same : packed_entry h.0 ≡ packed_entry (entry_from header marks lines x) = h.2 ∙ clean_so.entry
      (entry_free n is free) ∙ entry_same in
      let f = form n h.0 is h.1 in
      let stores : (state_entry h.0).stores ≡ listed header lines x = ap (λ (q : Packed). q.content) same
      ∙ stores_back (servers_of_line (object_line header x)) (listed header lines x) in
      h.1 ∙ ap Some (λ i. record {
        uid = p.keyed (entry x) h.0 h.1 i;
        class = f.0 i;
        version = ap (λ (q : Packed). q.version) same i;
        writer = number_tells h.0.writer (entry_from header marks lines x).writer (ap (λ (q : Packed). q.writer) same) i;
        payload = (f.1 ∙ ap (entry_payload (servers_of_line (object_line header x))) stores) i;
        format = (f.2 ∙ ap (λ (q : Packed). format_at header.format q.version) same) i;
      })

  -- and the state
  state_held : (n m : Node) (s : ℕ) → M.nodes 1 ≡ Some n → M.nodes s ≡ Some m → is_among (listed header lines x) s ≡ true → holder_of (entry
      x) n.disk.names ≡ None → holder_of (object x) m.disk.store ≡ None →
      held_at (object x) m.disk.store ≡ Some (last_from header marks lines x)
  state_held n m s is there among free clear =
      let o : SeesStore x s m.disk.store W.disk = sees.stores s m there in
      let p = o.pair in
      let pend = entry_free n is free in
      let content : W.disk.entry.content ≡ listed header lines x = ap (λ (q : Packed). q.content) (clean_so.entry pend ∙ entry_same)
      ∙ stores_back (servers_of_line (object_line header x)) (listed header lines x) in
      let on : has s W.disk.entry.content ≡ true = ap (has s) content ∙ has_among s (listed header lines x) ∙ among in
      let held : W.disk.held s ≡ Some (packed (last_from header marks lines x)) = held_is s
      (clean_so.stores pend s on (place_free (object x) m.disk.store packed (W.disk.held s) (W.disk.pend s) p clear)) in
      let h = held_some (held_at (object x) m.disk.store) (packed (last_from header marks lines x)) packed (p.held_is ∙ held) in
      h.1 ∙ ap Some (one_state h.0 (last_from header marks lines x) h.2 (p.keyed (object x) h.0 h.1))

  pub is_clean : IsCleanIn header lines x M
  is_clean = record { names = entry_held; stores = state_held }
