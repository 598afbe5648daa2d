-- Whatever each handler keeps holds of a world that is reached: so it is in each run.
use Rattle.arj_law_parts.proofs.Words.{Header, World, world_by, Seen}
use Rattle.arj_law_runs.proofs.Terms.{Run, Holds, Keeps, keeps_asked, moves_asked, IsReached, Keeping}

pub moves_keep : (hd : Header) (r : Run hd) → Keeping hd (world_by hd r)
moves_keep hd r P keeps = moves_asked hd P keeps r

pub kept_holds : (hd : Header) (w : World) → Keeping hd w → (P : Seen → Type 0) → Keeps hd P → Holds hd P w
kept_holds hd w keeping P keeps = keeping P (keeps_asked hd P keeps)

pub reached_holds : (hd : Header) (w : World) → IsReached hd w → (P : Seen → Type 0) → Keeps hd P → Holds hd P w
reached_holds hd w reached P keeps = kept_holds hd w reached.keeping P keeps
