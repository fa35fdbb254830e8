-- Small groups and their runs: a process that ends at once, one that writes three bytes first, and others.
use Rattle.std.specs.Prelude.{ℕ, false, List, [], ◌∷◌, replicate}
use Rattle.group_defs.specs.declared.frame.Proc.{Proc}
use Rattle.group_defs.specs.declared.frame.ProcState.TheVariants.{Running, Ended}
use Rattle.group_defs.specs.declared.frame.ObjectRec.{ObjectRec}
use Rattle.descriptors.specs.declared.opens.Open.{Open}
use Rattle.descriptors.specs.declared.opens.OpenKind.TheVariants.{Nothing, Outside}
use Rattle.run_defs.specs.declared.run.Limits.{Limits}
use Rattle.run_defs.specs.declared.run.Mark.{Mark}
use Rattle.run_defs.specs.declared.run.Mark.TheVariants.{Take, Turn, Barrier, Fetch, Ack}
use Rattle.group_defs.specs.Group.{Group}

-- one process with its image at 0x10000 and a page of stack; descriptor 0 is at nothing, 1 and 2 are at the outside
abbrev pub first_process : Proc
first_process = record {
  pid = 1;
  parent = 0;
  state = Running;
  pc = 0x10000;
  regs = 0 ∷ 0x3ffffff000 ∷ replicate 29 0;
  brk_base = 0x11000;
  brk = 0x11000;
  maps = record { start = 0x10000; pages = 1; prot = 7; shared = false; object = 0; first = 0 }
      ∷ record { start = 0x3fffffe000; pages = 1; prot = 3; shared = false; object = 1; first = 0 } ∷ [];
  fds = (0, 0) ∷ (1, 1) ∷ (2, 1) ∷ [];
}

abbrev pub one_page_group : List ℕ → List ℕ → Group
one_page_group image stack = record {
  frame = record {
    procs = first_process ∷ [];
    objects = record { number = 0; pages = 1 } ∷ record { number = 1; pages = 1 } ∷ [];
    opens = record { number = 0; kind = Nothing; offset = 0; flags = 0 } ∷ record { number = 1; kind = Outside; offset = 0; flags = 0 } ∷ [];
    pipes = [];
    pairs = [];
    files = [];
    next = record { pid = 2; object = 2; descr = 2; pipe = 0; pair = 0 };
    out = record { from = 0; mark = 0; bytes = [] };
  };
  memory = (0, image) ∷ (1, stack) ∷ [];
}

abbrev pub default_limits : Limits
default_limits = record { turns = 1000000; quantum = 1000; every = 100; workers = 0; flushers = 1 }

-- li a7, 93; li a0, 0; ecall
abbrev pub exits_at_once : List ℕ → List ℕ → Group
exits_at_once rest stack = one_page_group (0x93 ∷ 0x08 ∷ 0xd0 ∷ 0x05 ∷ 0x13 ∷ 0x05 ∷ 0x00 ∷ 0x00 ∷ 0x73 ∷ 0x00 ∷ 0x00 ∷ 0x00 ∷ rest) stack

abbrev pub exit_trace : List Mark
exit_trace = Take 0 1 ∷ Turn 0 1 2 ∷ Barrier 1 ∷ Fetch 1 ∷ Ack 1 ∷ []

-- lui a1, 16; addi a1, a1, 36; li a0, 1; li a2, 3; li a7, 64; ecall; li a0, 7; li a7, 93; ecall; and the bytes "hi" and a line feed
abbrev pub says_hi : List ℕ → List ℕ → Group
says_hi rest stack = one_page_group
    (0xb7 ∷ 0x05 ∷ 0x01 ∷ 0x00 ∷ 0x93 ∷ 0x85 ∷ 0x45 ∷ 0x02 ∷ 0x13 ∷ 0x05 ∷ 0x10 ∷ 0x00 ∷ 0x13 ∷ 0x06 ∷ 0x30 ∷ 0x00 ∷ 0x93 ∷ 0x08 ∷ 0x00 ∷ 0x04
    ∷ 0x73 ∷ 0x00 ∷ 0x00 ∷ 0x00 ∷ 0x13 ∷ 0x05 ∷ 0x70 ∷ 0x00 ∷ 0x93 ∷ 0x08 ∷ 0xd0 ∷ 0x05 ∷ 0x73 ∷ 0x00 ∷ 0x00 ∷ 0x00
    ∷ 0x68 ∷ 0x69 ∷ 0x0a ∷ rest) stack

abbrev pub hi_trace : List Mark
hi_trace = Take 0 1 ∷ Turn 0 1 5 ∷ Take 0 1 ∷ Turn 0 1 2 ∷ Barrier 1 ∷ Fetch 1 ∷ Ack 1 ∷ []

-- li a7, 64; li a0, 5; ecall; li a0, 1; li a1, 0; li a2, 3; ecall; li a7, 1; ecall
abbrev pub asks_in_vain : List ℕ → List ℕ → Group
asks_in_vain rest stack = one_page_group
    (0x93 ∷ 0x08 ∷ 0x00 ∷ 0x04 ∷ 0x13 ∷ 0x05 ∷ 0x50 ∷ 0x00 ∷ 0x73 ∷ 0x00 ∷ 0x00 ∷ 0x00 ∷ 0x13 ∷ 0x05 ∷ 0x10 ∷ 0x00 ∷ 0x93 ∷ 0x05 ∷ 0x00 ∷ 0x00
    ∷ 0x13 ∷ 0x06 ∷ 0x30 ∷ 0x00 ∷ 0x73 ∷ 0x00 ∷ 0x00 ∷ 0x00 ∷ 0x93 ∷ 0x08 ∷ 0x10 ∷ 0x00 ∷ 0x73 ∷ 0x00 ∷ 0x00 ∷ 0x00 ∷ rest) stack

-- A process with a parent, a running child and an ended child; its image and one description are its own.
abbrev pub member : ℕ → ℕ → ℕ → List (ℕ × ℕ) → Proc
member pid parent object fds = record first_process { pid = pid; parent = parent; maps = record { start = 0x10000; pages = 1; prot = 7; shared = false; object = object; first = 0 } ∷ []; fds = fds }

abbrev pub cleared : ℕ → ℕ → ℕ → Proc
cleared pid parent status = record { pid = pid; parent = parent; state = Ended status; pc = 0; regs = replicate 31 0; brk_base = 0; brk = 0; maps = []; fds = [] }

abbrev pub family_of : List Proc → List ObjectRec → List Open → List (ℕ × List ℕ) → Group
family_of procs objects opens memory = record {
  frame = record {
    procs = procs;
    objects = objects;
    opens = opens;
    pipes = [];
    pairs = [];
    files = [];
    next = record { pid = 5; object = 3; descr = 2; pipe = 0; pair = 0 };
    out = record { from = 0; mark = 0; bytes = [] };
  };
  memory = memory;
}

-- li a7, 93; li a0, 3; ecall
abbrev pub family : List ℕ → List ℕ → List ℕ → Group
family rest parents childs = family_of
    (member 1 0 0 ((0, 0) ∷ []) ∷ member 2 1 1 ((0, 0) ∷ (1, 1) ∷ []) ∷ member 3 2 2 ((0, 0) ∷ []) ∷ cleared 4 2 1024 ∷ [])
    (record { number = 0; pages = 1 } ∷ record { number = 1; pages = 1 } ∷ record { number = 2; pages = 1 } ∷ [])
    (record { number = 0; kind = Nothing; offset = 0; flags = 0 } ∷ record { number = 1; kind = Outside; offset = 0; flags = 0 } ∷ [])
    ((0, parents) ∷ (1, 0x93 ∷ 0x08 ∷ 0xd0 ∷ 0x05 ∷ 0x13 ∷ 0x05 ∷ 0x30 ∷ 0x00 ∷ 0x73 ∷ 0x00 ∷ 0x00 ∷ 0x00 ∷ rest) ∷ (2, childs) ∷ [])

abbrev pub family_left : List ℕ → List ℕ → Group
family_left parents childs = family_of
    (member 1 0 0 ((0, 0) ∷ []) ∷ cleared 2 1 768 ∷ member 3 0 2 ((0, 0) ∷ []) ∷ [])
    (record { number = 0; pages = 1 } ∷ record { number = 2; pages = 1 } ∷ [])
    (record { number = 0; kind = Nothing; offset = 0; flags = 0 } ∷ [])
    ((0, parents) ∷ (2, childs) ∷ [])

-- two processes of one code, in images of their own: ecall (of no call's number); li a7, 93; ecall
abbrev pub two_processes : List ℕ → List ℕ → Group
two_processes rest others = family_of
    (member 1 0 0 ((0, 0) ∷ []) ∷ member 2 0 1 ((0, 0) ∷ []) ∷ [])
    (record { number = 0; pages = 1 } ∷ record { number = 1; pages = 1 } ∷ [])
    (record { number = 0; kind = Nothing; offset = 0; flags = 0 } ∷ [])
    ((0, 0x73 ∷ 0x00 ∷ 0x00 ∷ 0x00 ∷ 0x93 ∷ 0x08 ∷ 0xd0 ∷ 0x05 ∷ 0x73 ∷ 0x00 ∷ 0x00 ∷ 0x00 ∷ rest)
    ∷ (1, 0x73 ∷ 0x00 ∷ 0x00 ∷ 0x00 ∷ 0x93 ∷ 0x08 ∷ 0xd0 ∷ 0x05 ∷ 0x73 ∷ 0x00 ∷ 0x00 ∷ 0x00 ∷ others) ∷ [])

-- two workers, and a barrier after two turns
abbrev pub two_workers : Limits
two_workers = record { turns = 1000000; quantum = 1000; every = 2; workers = 2; flushers = 1 }

-- Both have a lease at once, and end their turns in either order; at the second interval the workers have changed places.
abbrev pub two_workers_trace : List Mark
two_workers_trace = Take 0 1 ∷ Take 1 2 ∷ Turn 1 2 0 ∷ Turn 0 1 0 ∷ Barrier 2 ∷ Fetch 2 ∷ Ack 2
    ∷ Take 1 1 ∷ Take 0 2 ∷ Turn 1 1 1 ∷ Turn 0 2 1 ∷ Barrier 3 ∷ Fetch 3 ∷ Ack 3 ∷ []
