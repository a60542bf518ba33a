-- Document 01, "Lent tables": the place of each word in its record. The tables' names are cut to two letters, as `nine` has them;
-- modes and decisions share `na`.
use Rattle.std.specs.Prelude.{ℕ}

-- states: "type, rule, block end, loop back, flags, first edge, last edge, edge count"
abbrev pub st_kind : ℕ
st_kind = 0

abbrev pub st_rule : ℕ
st_rule = 1

abbrev pub st_end : ℕ
st_end = 2

abbrev pub st_back : ℕ
st_back = 3

abbrev pub st_flags : ℕ
st_flags = 4

abbrev pub st_first : ℕ
st_first = 5

abbrev pub st_last : ℕ
st_last = 6

abbrev pub st_count : ℕ
st_count = 7

-- edges: "type, source, target, p, q, r, mark, next edge"
abbrev pub ed_kind : ℕ
ed_kind = 0

abbrev pub ed_source : ℕ
ed_source = 1

abbrev pub ed_target : ℕ
ed_target = 2

abbrev pub ed_p : ℕ
ed_p = 3

abbrev pub ed_q : ℕ
ed_q = 4

abbrev pub ed_r : ℕ
ed_r = 5

abbrev pub ed_mark : ℕ
ed_mark = 6

abbrev pub ed_next : ℕ
ed_next = 7

-- ranges: "start, stop"
abbrev pub ra_start : ℕ
ra_start = 0

abbrev pub ra_stop : ℕ
ra_stop = 1

-- sets: "first range, range count"
abbrev pub se_first : ℕ
se_first = 0

abbrev pub se_count : ℕ
se_count = 1

-- rules: "start, stop, token type"
abbrev pub ru_start : ℕ
ru_start = 0

abbrev pub ru_stop : ℕ
ru_stop = 1

abbrev pub ru_token : ℕ
ru_token = 2

-- modes and decisions: "state"
abbrev pub na_state : ℕ
na_state = 0

-- actions: "type, d1, d2"
abbrev pub ac_kind : ℕ
ac_kind = 0

abbrev pub ac_d1 : ℕ
ac_d1 = 1

abbrev pub ac_d2 : ℕ
ac_d2 = 2
