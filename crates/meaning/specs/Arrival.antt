-- Document 01, step 3 of a slot, from the point where the cell's VC is open and up to date. Read from the bottom up.
use Rattle.std.specs.Prelude.{ℕ, ◌+◌, ◌-◌, ◌%◌, not, ◌&&◌, List, set}
use Rattle.meaning.specs.Plain.{when◌then◌else◌, ◌<?◌, ◌=?◌, Out, next, needs}
use Rattle.meaning.specs.Numbers.{accepted, excess, tagged}
use Rattle.meaning.specs.Bits.{is_free_space, spaces_fit, taken, marked}
use Rattle.meaning.specs.State.{with_cells, with_links, with_calendar, with_free, with_arrived, write_cell}
use Rattle.meaning.specs.Bucket.{Bucket, is_excess, delay, fill}
use Rattle.meaning.specs.Words.{Connection, with_waiting, with_buckets}
use Rattle.meaning.specs.Header.{clp_in, tagged_cell}
use Rattle.meaning.specs.Lists.{ends_fit, entry_at, write_entry, join_head}
use Rattle.meaning.specs.Work.{Work, with_state, with_connection, with_arrival}

-- 3, space x being the cell's: "The cell is written into its own 53 octets .. It joins calendar entry (T+D) modulo N at
-- the head"; document 02 (ix): the entry's bit is set; (x): "Arrival slots are kept beside the cells, 32 bits, wrapping"
unfoldable pub place : List ℕ → ℕ → ℕ → Work → Out Work
place cell D x w =
    let s = w.state in
    let e = (s.ctl.turn + D) % s.ctl.n in
    let entry = entry_at s.calendar e in
    let grown = join_head s.links entry x in
    let s1 = with_free s (s.ctl.free - 1) (marked (taken s.bits x) e) in
    let s2 = with_cells s1 (write_cell s.cells x cell) in
    let s3 = with_links s2 grown.links in
    let s4 = with_calendar s3 (write_entry s.calendar e grown.ends) in
    let s5 = with_arrived s4 (set s.arrived x s.ctl.t) in
    needs (ends_fit s.ctl.n entry) (next (with_state w s5))

-- Document 02 (iv): "A cell above the peak is excess. A CLP 0 cell within the peak but above the sustainable rate is tagged if
-- the flag is set .. and otherwise excess." Both buckets are judged before either is filled.
unfoldable pub verdict_on : ℕ → Connection → ℕ
verdict_on clp conn =
    when is_excess conn.bucket then excess
    else when clp =? 0 && is_excess conn.second then (when conn.tag =? 0 then excess else tagged)
    else accepted

-- "An excess cell fills neither bucket, a tagged one only the peak bucket": the second bucket after a cell that is let in
unfoldable pub second_after : ℕ → ℕ → Bucket → Bucket
second_after clp verdict b = when clp =? 0 && verdict =? accepted then fill b else b

-- the octets that are stored, sent and shown
unfoldable pub sent_as : ℕ → List ℕ → List ℕ
sent_as verdict cell = when verdict =? tagged then tagged_cell cell else cell

-- 3, not excess: "D = floor(S/L), S grows by F, waiting by one. The head of the Free List is taken.", now space x, which is free;
-- "waiting .. below N when a cell is accepted". Document 02 (iv): "D from the peak bucket"; (vii): 3 for "a bit at or above N, a
-- number other than the ones, none free for a cell"
unfoldable pub accept : ℕ → List ℕ → ℕ → ℕ → Work → Connection → Out Work
accept x cell verdict c w conn =
    let s = w.state in
    let N = s.ctl.n in
    let D = delay conn.bucket in
    let second = second_after (clp_in cell) verdict conn.second in
    let filled = with_waiting (with_buckets conn (fill conn.bucket) second) (conn.waiting + 1) in
    let w1 = with_arrival (with_connection w c filled) verdict c D in
    needs (conn.waiting <? N)
    (needs (spaces_fit N s.ctl.free s.bits && not (s.ctl.free =? 0))
    (needs (is_free_space s.bits x) (place (sent_as verdict cell) D x w1)))

-- 3, the VC being up to date: "If S is above C-F the cell is excess and this step changes no more."
unfoldable pub judge : ℕ → List ℕ → ℕ → Work → Connection → Out Work
judge x cell c w conn =
    let verdict = verdict_on (clp_in cell) conn in
    when verdict =? excess then next (with_arrival (with_connection w c conn) excess c 0)
    else accept x cell verdict c w conn
