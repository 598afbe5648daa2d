-- The lines of a journal, the counts and the files of nodes.
use Rattle.std.specs.Prelude.{◌≡◌, ◌≤◌, is_some, ℕ, Bool, true, false, ◌&&◌, ◌==◌, not, nat_le, nat_lt, if◌then◌else◌, List, [], ◌∷◌, Option, Some, None}
use Rattle.std.specs.List.{list_all}
use Rattle.arj_base.specs.declared.uid.Uid.{Uid}
use Rattle.arj_image.specs.declared.image.Image.{Image}
use Rattle.arj_image.specs.declared.image.NodeFile.{NodeFile}
use Rattle.arj_journal.specs.declared.body.Body.{Body}
use Rattle.arj_journal.specs.declared.body.Body.TheVariants as body
use Rattle.arj_journal.specs.declared.body.Line.{Line}
use Rattle.arj_journal.specs.declared.header.Header.{Header}
use Rattle.arj_model.specs.Last.{is_among, listed}
use Rattle.arj_saved.specs.Files.{inc_at}
use Rattle.arj_saved.specs.declared.files.TheConstants.{MOST_COUNT}

-- the node where a line happened, if it says one
abbrev pub node_of : Body → Option ℕ
node_of (body.Began l k u p) = Some u.node
node_of (body.Granted n u o m) = Some n
node_of (body.Lowered n u o) = Some n
node_of (body.Active n x b) = Some n
node_of (body.Told n u e p) = Some n
node_of (body.Prepared n u r) = Some n
node_of (body.Done n u r e) = Some n
node_of (body.Halted n) = Some n
node_of (body.Up n i) = Some n
node_of (body.Recovered n u) = Some n
node_of _ = None

-- it is this node
abbrev pub is_node : ℕ → Option ℕ → Bool
is_node n None = false
is_node n (Some m) = m == n

-- the line is a halt
abbrev pub is_halt : Body → Bool
is_halt (body.Halted n) = true
is_halt _ = false

-- whether the last line that happened at a node is its halt, where this is so of those before
abbrev pub halted_from : ℕ → Bool → List Line → Bool
halted_from n before [] = before
halted_from n before (l ∷ ls) = halted_from n (if is_node n (node_of l.body) then is_halt l.body else before) ls

-- the last line that happened at a node is its halt
abbrev pub is_halted : List Line → ℕ → Bool
is_halted lines n = halted_from n false lines

-- the frame that a line names, 0 where it names none
abbrev pub frame_of : Body → ℕ
frame_of (body.Sent k m n f) = k
frame_of (body.Got k) = k
frame_of (body.Void k) = k
frame_of (body.Dropped k) = k
frame_of _ = 0

-- an incarnation isn't above the one that is there
abbrev pub is_within : ℕ → Option ℕ → Bool
is_within i None = false
is_within i (Some now) = nat_le i now

-- an action of this Uid is of one of so many nodes, in an incarnation to which the node has come
abbrev pub is_known : ℕ → List NodeFile → Uid → Bool
is_known nodes files u = nat_le 1 u.node && (nat_le u.node nodes && is_within u.inc (inc_at files u.node))

-- a node has come to this incarnation, where it is one of so many
abbrev pub has_come : ℕ → List NodeFile → ℕ → ℕ → Bool
has_come nodes files n i = if nat_lt nodes n then true else is_within i (inc_at files n)

-- what a line says fits the files
abbrev pub body_fits : ℕ → List NodeFile → Body → Bool
body_fits nodes files (body.Began l k u p) = is_known nodes files u
body_fits nodes files (body.Up n i) = has_come nodes files n i
body_fits nodes files _ = true

-- a line fits the counts and the files
abbrev pub line_fits : Image → Line → Bool
line_fits image l =
    nat_le l.event image.events && (nat_le (frame_of l.body) image.frames && body_fits (let h = image.header in h.nodes) image.files l.body)

-- each line does
abbrev pub lines_fit : Image → Bool
lines_fit image = list_all (line_fits image) image.journal

-- the counts aren't too great
abbrev pub are_few : Image → Bool
are_few image = nat_le image.events MOST_COUNT && nat_le image.frames MOST_COUNT

-- each of so many nodes is halted, and its incarnation is there
abbrev pub AreAtRest : Image → ℕ → Type 0
AreAtRest image nodes = (n : ℕ) → 1 ≤ n → n ≤ nodes → (is_halted image.journal n && is_some (inc_at image.files n)) ≡ true

-- The counts aren't too great, each line fits them and the files, and each node is halted, with its incarnation.
pub record NodesFit (image : Image) : Type 0 where
  pub few : are_few image ≡ true
  pub fits : lines_fit image ≡ true
  pub rest : AreAtRest image (let h = image.header in h.nodes)

-- no number is there twice
abbrev pub are_distinct : List ℕ → Bool
are_distinct [] = true
are_distinct (n ∷ ns) = not (is_among ns n) && are_distinct ns

-- there is one, and none twice
abbrev pub is_listing : List ℕ → Bool
is_listing [] = false
is_listing (n ∷ ns) = are_distinct (n ∷ ns)

-- each object has a listed store, and none twice
abbrev pub are_listed : Header → List Line → Bool
are_listed header lines = list_all (λ o. is_listing (listed header lines o.x)) header.objects
