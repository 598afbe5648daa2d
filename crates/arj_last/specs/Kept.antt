-- What is kept of a journal's lines: answered writes by their objects, and called commits by their tops and roots.
use Rattle.std.specs.Prelude.{◌≡◌, ℕ, List, [], ◌∷◌, map, filter, Bool, true, false, ◌==◌, ◌&&◌, if◌then◌else◌, Option, Some, None}
use Rattle.std.specs.List.{cons_option, filter_map}
use Rattle.arj_class.specs.Table.{writes}
use Rattle.arj_journal.specs.declared.body.Body.{Body}
use Rattle.arj_journal.specs.declared.body.Body.TheVariants as body
use Rattle.arj_journal.specs.declared.body.Line.{Line}
use Rattle.arj_model.specs.Calls.{Call, committings, made}
use Rattle.arj_model.specs.Serial.{writes_on}
use Rattle.arj_standing.specs.Begun.{links_named}
use Rattle.arj_standing.specs.declared.begun.Begun.{Begun}
use Rattle.arj_standing.specs.declared.begun.Link.{Link}
use Rattle.arj_text.specs.Label.{name}
use Rattle.arj_changes.specs.Kept.{called_of}
use Rattle.arj_changes.specs.Paths.{chain_links, link_ids, top_link}
use Rattle.arj_changes.specs.declared.kept.Called.{Called}
use Rattle.arj_last.specs.Groups.{items_of}
use Rattle.arj_last.specs.declared.kept.Write.{Write}
use Rattle.arj_last.specs.declared.kept.Writes.{Writes}

-- an answered write, as it is kept
abbrev pub write_of : Call → Write
write_of c = record { at = c.at; top = c.top; writer = c.writer; chain = c.chain }

-- the write whose line has this place, in an action with this path and top
abbrev pub write_by : ℕ → List Link → Option Link → Option Write
write_by at path None = None
write_by at path (Some top) = Some (record { at = at; top = top.id; writer = top.uid; chain = link_ids (chain_links path) })

-- the write on object y that a line at this place answers
abbrev pub written_on : List Begun → ℕ → ℕ → Body → List Write
written_on bs at y (body.Ok l x op answer) =
    if (x == y) && writes op then cons_option (write_by at (links_named (name l) bs) (top_link (links_named (name l) bs))) [] else []
written_on bs at y _ = []

-- the number by which a called commit is kept: its root's or its top's
abbrev pub number_of : Bool → Called → ℕ
number_of true c = c.root
number_of false c = c.id

-- a called commit, where it is kept under this number
abbrev pub called_at : Bool → ℕ → Option Called → List Called
called_at by_root n None = []
called_at by_root n (Some c) = if number_of by_root c == n then c ∷ [] else []

-- This is kept of these lines.
pub record AreWritten (lines : List Line) (w : Writes) : Type 0 where
  pub on : (x : ℕ) → items_of w.on x ≡ map write_of (filter (writes_on x) (made lines))
  pub by_top : (id : ℕ) → items_of w.by_top id ≡ filter (λ c. number_of false c == id) (filter_map called_of (committings lines))
  pub by_root : (root : ℕ) → items_of w.by_root root ≡ filter (λ c. number_of true c == root) (filter_map called_of (committings lines))
