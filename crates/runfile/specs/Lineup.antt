-- Stage records: four bytes each, kind, mask, tested stage, 0. Assumes nothing.
use Rattle.std.specs.Prelude.{ℕ, zero, suc, ◌+◌, ◌-◌, ◌*◌, ◌/◌, ◌^◌, Bool, cond, not, ◌||◌, List, replicate, Some, None, Option, ◌==◌, nat_le, slice_index, slice_index_or, slice_set}
use Rattle.playout.specs.Reach.{reach_of}
use Rattle.stages.specs.Marks.{names}
use Rattle.runfile.specs.Faults.{Read, and_then, bad, good, unless_bad}
use Rattle.runfile.specs.declared.header.EventKind.{EventKind}
use Rattle.runfile.specs.declared.header.EventKind.TheVariants.{Cues, Packets}
use Rattle.runfile.specs.declared.lineup.Lineup.{Lineup}
use Rattle.runfile.specs.declared.lineup.StageRecord.{StageRecord}
use Rattle.runfile.specs.declared.lineup.Task.{Task}
use Rattle.runfile.specs.declared.lineup.Work.{Work}
use Rattle.runfile.specs.declared.lineup.Work.TheVariants.{Journal, Check, Air}

-- 1 Journal, 2 Check, 3 Air; the last two need cues
abbrev pub work_of : EventKind → ℕ → Option Work
work_of Cues n = cond (n == 1) (Some Journal) (cond (n == 2) (Some Check) (cond (n == 3) (Some Air) None))
work_of Packets n = cond (n == 1) (Some Journal) None

-- a kind of 16 more puts a sieve over the stage
abbrev pub is_sieved : ℕ → Bool
is_sieved code = nat_le 16 code

-- the tested stage lies in the reach under a sieve, and is 0 otherwise
abbrev pub task_by : Option Work → Bool → ℕ → ℕ → ℕ → ℕ → Read StageRecord
task_by None sieved reach tested mask at = bad 9 at
task_by (Some work) sieved reach tested mask at =
    cond sieved
    (unless_bad (not (names reach tested)) 9 at (good (record { task = record { work = work; tested = Some tested }; mask = mask })))
    (unless_bad (not (tested == 0)) 9 at (good (record { task = record { work = work; tested = None }; mask = mask })))

-- the record of stage i at a place, after the masks of the stages before it: its mask names only lower-numbered stages
abbrev pub stage_at : List ℕ → EventKind → List ℕ → ℕ → ℕ → Read StageRecord
stage_at file kind masks i at =
    let code : ℕ = slice_index_or file at 0 in
    let mask : ℕ = slice_index_or file (at + 1) 0 in
    unless_bad (not (mask / 2 ^ i == 0) || not (slice_index file (at + 3) == 0)) 9 at
    (task_by (work_of kind (cond (is_sieved code) (code - 16) code)) (is_sieved code) (reach_of (slice_set masks i mask) i) (slice_index file (at + 2)) mask at)

-- tables with nothing in them
abbrev pub no_tasks : List Task
no_tasks = replicate 8 (record { work = Journal; tested = None })

-- n records more, from stage i on
unfoldable pub lineup_from : List ℕ → EventKind → ℕ → ℕ → ℕ → Lineup → Read Lineup
lineup_from file kind start zero i l = good l
lineup_from file kind start (suc n) i l =
    and_then (stage_at file kind l.masks i (start + 4 * i)) λ r.
    lineup_from file kind start n (suc i) (record { tasks = slice_set l.tasks i r.task; masks = slice_set l.masks i r.mask })

-- all records of a section
abbrev pub lineup_of : List ℕ → EventKind → ℕ → ℕ → Read Lineup
lineup_of file kind start count = lineup_from file kind start count 0 (record { tasks = no_tasks; masks = replicate 8 0 })
