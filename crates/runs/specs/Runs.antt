-- The table of worked runs, of rows, of the queue and of the table with stable keys, and what it means that a run holds.
use Rattle.std.specs.Prelude.{◌≡◌, ℕ, true, List, [], ◌∷◌, length, take, Some, None, Ok, Err, Result}
use Rattle.refusal.specs.declared.Refusal.{Refusal}
use Rattle.refusal.specs.declared.Refusal.TheVariants.{NoSpace, PlacePastLength, KeyPastTable}
use Rattle.rows.specs.Cells.{window}
use Rattle.codes.specs.Little.{little_at}
use Rattle.codes.specs.Packed.{packed}
use Rattle.model.specs.Tables.{fresh}
use Rattle.history.specs.Calls.{answers_to as table_answers}
use Rattle.history.specs.declared.calls.Call.{Call}
use Rattle.history.specs.declared.calls.Call.TheVariants as call
use Rattle.history.specs.declared.calls.Answer.{Answer}
use Rattle.history.specs.declared.calls.Answer.TheVariants.{Done, Key, Value, Flag, Number}
use Rattle.runs.specs.declared.calls.QueueCall.{QueueCall}
use Rattle.runs.specs.declared.calls.QueueCall.TheVariants.{Push, PushWithOverflow, Get}
use Rattle.image.specs.Format.{Entry, Reading, whole, broken, Reads}
use Rattle.image.specs.Pieces.{entry}
use Rattle.runs.specs.Calls.{answers_to}

-- a worked run, with what came of it
pub data Run : Type 0 where
  -- an empty queue of this capacity answers these calls so
  queue_run : (capacity : ℕ) (calls : List QueueCall) (answers : List (Result (Answer ℕ) Refusal)) → Run
  -- numbers packed into so many bytes have so many cells
  packed_run : (bytes cells : ℕ) → Run
  -- a window of at most `most` cells from `from` on, over so many cells, shows so many
  window_run : (cells from most shown : ℕ) → Run
  -- a fresh table of so many keys answers these calls so, whatever rows it stands on
  table_run : (capacity : ℕ) (calls : List (Call ℕ)) (answers : List (Result (Answer ℕ) Refusal)) → Run
  -- these bytes read so, as an image or as bytes that break a rule at an offset
  image_run : (bytes : List ℕ) (reading : Reading) → Run

-- the run holds, by the definitions that the calls' contracts use
abbrev pub Holds : Run → Type 0
Holds (queue_run capacity calls answers) = answers_to capacity [] calls ≡ answers
Holds (packed_run bytes cells) = (string : List ℕ) → length string ≡ bytes → length (packed 4 (λ s. little_at 4 s 0) string) ≡ cells
Holds (window_run cells from most shown) = (row : List ℕ) → length row ≡ cells → length (window from most row) ≡ shown
Holds (table_run capacity calls answers) = table_answers (fresh capacity) calls ≡ answers
Holds (image_run bytes reading) = Reads bytes reading

-- key 1 holds the number 7; and the bytes of this, of three keys
abbrev pub seven : List Entry
seven = entry 1 (0x07 ∷ 0x00 ∷ 0x00 ∷ 0x00 ∷ []) ∷ []

abbrev pub seven_image : List ℕ
seven_image = 0x53 ∷ 0x4D ∷ 0x01 ∷ 0x04 ∷ 0x03 ∷ 0x00 ∷ 0x01 ∷ 0x00 ∷ 0x53 ∷ 0x56 ∷ 0x01 ∷ 0x00 ∷ 0x07 ∷ 0x00 ∷ 0x00 ∷ 0x00 ∷ 0x53 ∷ 0x45 ∷ []

-- the worked runs
abbrev pub runs : List Run
runs =
    queue_run 3
    (Push 1 ∷ (Push 2 ∷ (Push 3 ∷ (Push 4 ∷ (PushWithOverflow 4 ∷ (Get 0 ∷ (Get 3 ∷ [])))))))
    (Ok Done ∷ (Ok Done ∷ (Ok Done ∷ (Err NoSpace ∷ (Ok (Value (Some 1)) ∷ (Ok (Number 2) ∷ (Err PlacePastLength ∷ [])))))))
    ∷ (packed_run 11 2
    ∷ (window_run 7 5 4 2
    -- a key that insert_at took is not handed out again
    ∷ (table_run 2
    (call.InsertAt 0 5 ∷ (call.Insert 6 ∷ []))
    (Ok Done ∷ (Ok (Key (Some 1)) ∷ []))
    -- insert_at over a holding key, and of a key further on in the free list
    ∷ (table_run 3
    (call.Insert 5 ∷ (call.Insert 6 ∷ (call.Remove 0 ∷ (call.InsertAt 1 7 ∷ (call.InsertAt 2 8 ∷ (call.Insert 9 ∷ (call.Insert 1 ∷ [])))))))
    (Ok (Key (Some 0)) ∷ (Ok (Key (Some 1)) ∷ (Ok (Value (Some 5)) ∷ (Ok Done ∷ (Ok Done ∷ (Ok (Key (Some 0)) ∷ (Ok (Key None) ∷ [])))))))
    -- the key that was emptied last comes first, and keys that were never used come after
    ∷ (table_run 4
    (call.Insert 5 ∷ (call.Insert 6 ∷ (call.Insert 7 ∷ (call.Remove 0 ∷ (call.Remove 2 ∷ (call.Insert 8 ∷ (call.Insert 9 ∷ (call.Insert 1 ∷ []))))))))
    (Ok (Key (Some 0)) ∷ (Ok (Key (Some 1)) ∷ (Ok (Key (Some 2)) ∷ (Ok (Value (Some 5)) ∷ (Ok (Value (Some 7)) ∷ (Ok (Key (Some 2)) ∷ (Ok (Key (Some 0)) ∷ (Ok (Key (Some 3)) ∷ []))))))))
    -- a table without keys is empty and full
    ∷ (table_run 0
    (call.Insert 5 ∷ (call.Get 0 ∷ (call.IsEmpty ∷ (call.IsFull ∷ []))))
    (Ok (Key None) ∷ (Err KeyPastTable ∷ (Ok (Flag true) ∷ (Ok (Flag true) ∷ []))))
    -- the last key of a table is one of its keys, and the number after it is not
    ∷ (table_run 3
    (call.InsertAt 2 5 ∷ (call.InsertAt 3 6 ∷ (call.Remove 3 ∷ (call.Replace 3 6 ∷ (call.Get 3 ∷ (call.Contains 3 ∷ (call.Get 2 ∷ [])))))))
    (Ok Done ∷ (Err KeyPastTable ∷ (Err KeyPastTable ∷ (Err KeyPastTable ∷ (Err KeyPastTable ∷ (Err KeyPastTable ∷ (Ok (Value (Some 5)) ∷ [])))))))
    -- an image, and the same less its last byte
    ∷ (image_run seven_image
    (whole 4 3 seven)
    ∷ (image_run (take 17 seven_image)
    (broken 16)
    ∷ [])))))))))
