-- Readings that show clean disks are clean.
use Rattle.arj_law_parts.proofs.Words.{◌≡◌, ℕ, true, List, is_some, ◌∙◌, ap, option_map, state_bytes, entry, object, Line, Header, Seen}
use Rattle.arj_law_serial.proofs.Terms.{CleanFrom, Disks, object_line, IsCleanIn}
use Rattle.arj_law_serial.specs.order.Readings.{AreShown}

pub readings_clean : (header : Header) (lines : List Line) (M : Seen) (disks : Disks) → ((x : ℕ) → is_some (object_line header x) ≡ true →
    IsCleanIn header lines x M) → AreShown header lines M disks → CleanFrom header M.start.marks lines disks
readings_clean header lines M disks clean shown = record {
  entries = λ x has free.
      let n = shown.naming in
      let p = shown.names n.0 n.1 in
      let c = clean x has in
      p.held (entry x) ∙ ap (option_map state_bytes) (c.names n.0 n.1 (p.free (entry x) free));
  stores = λ x s among free clear.
      let n = shown.naming in
      let p = shown.names n.0 n.1 in
      let m = shown.there x s among in
      let q = shown.stores s m.0 m.1 in
      let c = clean x m.2 in
      q.held (object x) ∙ ap (option_map state_bytes) (c.stores n.0 m.0 s n.1 m.1 among (p.free (entry x) free) (q.free (object x) clear));
}
