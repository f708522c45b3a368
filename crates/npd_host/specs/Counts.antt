-- A number for each kind of call.
use Rattle.std.specs.Prelude.{ℕ, ◌+◌, ◌-◌, ◌^◌, min}
use Rattle.npd_host.specs.declared.counts.Counts.{Counts}
use Rattle.npd_host.specs.declared.host.CallKind.{CallKind}
use Rattle.npd_host.specs.declared.host.CallKind.TheVariants.{OpenIn, Read, OpenOut, Write}

-- the number of a kind
abbrev pub count_at : CallKind → Counts → ℕ
count_at OpenIn counts = counts.open_in
count_at Read counts = counts.read
count_at OpenOut counts = counts.open_out
count_at Write counts = counts.write

-- one more, up to the last value of a u64
abbrev pub one_more : ℕ → ℕ
one_more n = min (n + 1) (2 ^ 64 - 1)

-- the numbers where that of one kind is one more
abbrev pub raised : CallKind → Counts → Counts
raised OpenIn counts = record counts { open_in = one_more counts.open_in }
raised Read counts = record counts { read = one_more counts.read }
raised OpenOut counts = record counts { open_out = one_more counts.open_out }
raised Write counts = record counts { write = one_more counts.write }
