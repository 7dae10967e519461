-- The exact log after each call that goes well, and after it is opened over given bytes.
use Rattle.std.specs.Prelude.{ℕ, ◌+◌, ◌<◌, ◌^◌, ◌==◌, cond, get_or, List, [], ◌∷◌, length, Some, None}
use Rattle.disk_model.specs.Cells.{Cells, settled, written}
use Rattle.batch_log.specs.Log.{log_bytes, restored}
use Rattle.batch_log.specs.declared.job.Job.{Job}
use Rattle.batch_log.specs.declared.job.Job.TheVariants.{Rest, Torn, Close, SyncClose, Body, SyncBody, Gate, SyncGate}

-- ---- the next call of a job, in a log whose groups end at `end`

-- the contents of the device after the next call of a job
abbrev pub log_called : Job → ℕ → Cells → Cells
log_called Rest end cells = cells
log_called Torn end cells = cells
log_called (Close waiting) end cells = written end (0 ∷ []) cells
log_called (SyncClose waiting) end cells = settled cells.now
log_called (Body bytes) end cells = written (end + 1) bytes cells
log_called (SyncBody next) end cells = settled cells.now
log_called (Gate next) end cells = written end (1 ∷ []) cells
log_called (SyncGate next) end cells = settled cells.now

-- the next call after that one
abbrev pub job_called : Job → ℕ → Job
job_called Rest end = Rest
job_called Torn end = Torn
job_called (Close waiting) end = SyncClose waiting
job_called (SyncClose None) end = Rest
job_called (SyncClose (Some bytes)) end = Body bytes
job_called (Body bytes) end = SyncBody (end + length bytes)
job_called (SyncBody next) end = Gate next
job_called (Gate next) end = SyncGate next
job_called (SyncGate next) end = Rest

-- the index at which the groups end after that call
abbrev pub end_called : Job → ℕ → ℕ
end_called Rest end = end
end_called Torn end = end
end_called (Close waiting) end = end
end_called (SyncClose waiting) end = end
end_called (Body bytes) end = end
end_called (SyncBody next) end = end
end_called (Gate next) end = end
end_called (SyncGate next) end = next

-- a job after which the groups still end below 2^63, as far as a device has bytes
abbrev pub HasRoom : Job → ℕ → Type 0
HasRoom (Body bytes) end = end + length bytes < 2 ^ 63
HasRoom Rest end = Unit {0}
HasRoom Torn end = Unit {0}
HasRoom (Close waiting) end = Unit {0}
HasRoom (SyncClose waiting) end = Unit {0}
HasRoom (SyncBody next) end = Unit {0}
HasRoom (Gate next) end = Unit {0}
HasRoom (SyncGate next) end = Unit {0}

-- the index at which the groups end after the running job, from the call on that fixes it
abbrev pub end_then : Job → ℕ → ℕ
end_then Rest end = end
end_then Torn end = end
end_then (Close waiting) end = end
end_then (SyncClose waiting) end = end
end_then (Body bytes) end = end
end_then (SyncBody next) end = next
end_then (Gate next) end = next
end_then (SyncGate next) end = next

-- groups that end below 2^63, now and after the running job
abbrev pub IsNear : Job → ℕ → Type 0
IsNear job end = (end < 2 ^ 63) × (end_then job end < 2 ^ 63)

-- ---- a log that is opened over these bytes

-- the index at which the groups end in given bytes
abbrev pub end_opened : List ℕ → ℕ
end_opened bytes = length (log_bytes (restored bytes))

-- the job of a log that is opened over given bytes: its gate is closed, or it is torn or absent
abbrev pub job_opened : List ℕ → Job
job_opened bytes = cond (get_or bytes (end_opened bytes) 1 == 0) Rest Torn
