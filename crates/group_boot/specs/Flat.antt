-- The first group of a flat image.
use Rattle.std.specs.Prelude.{ℕ, ◌+◌, ◌-◌, ◌*◌, ◌/◌, false, List, [], ◌∷◌, ◌++◌, length, replicate, take, drop}
use Rattle.group_defs.specs.declared.frame.Proc.{Proc}
use Rattle.group_defs.specs.declared.frame.ProcState.TheVariants.{Running}
use Rattle.descriptors.specs.declared.opens.OpenKind.TheVariants.{Nothing, Outside}
use Rattle.group_defs.specs.Group.{Group}

-- the pages that an image's bytes take
abbrev pub pages_for : List ℕ → ℕ
pages_for image = (length image + 4095) / 4096

-- the bytes of one of these pages; the last one is filled up with zeros
abbrev pub image_page : List ℕ → ℕ → List ℕ
image_page image page =
    let bytes = take 4096 (drop (4096 * page) image) in
    bytes ++ replicate (4096 - length bytes) 0

-- One process runs. Its image lies from 0x10000 on in object 0, with all rights, and one page of zeros below 0x3ffffff000
-- in object 1 is its stack. pc is at the image's first byte, x2 at the stack's top, and all else is 0; the break starts
-- behind the image's pages. Descriptor 0 is at nothing, 1 and 2 are at the outside.
abbrev pub flat_process : List ℕ → Proc
flat_process image = record {
  pid = 1;
  parent = 0;
  state = Running;
  pc = 0x10000;
  regs = 0 ∷ 0x3ffffff000 ∷ replicate 29 0;
  brk_base = 0x10000 + 4096 * pages_for image;
  brk = 0x10000 + 4096 * pages_for image;
  maps = record { start = 0x10000; pages = pages_for image; prot = 7; shared = false; object = 0; first = 0 }
      ∷ record { start = 0x3fffffe000; pages = 1; prot = 3; shared = false; object = 1; first = 0 } ∷ [];
  fds = (0, 0) ∷ (1, 1) ∷ (2, 1) ∷ [];
}

abbrev pub flat_group : List ℕ → Group
flat_group image = record {
  frame = record {
    procs = flat_process image ∷ [];
    objects = record { number = 0; pages = pages_for image } ∷ record { number = 1; pages = 1 } ∷ [];
    opens = record { number = 0; kind = Nothing; offset = 0; flags = 0 } ∷ record { number = 1; kind = Outside; offset = 0; flags = 0 } ∷ [];
    pipes = [];
    pairs = [];
    files = [];
    next = record { pid = 2; object = 2; descr = 2; pipe = 0; pair = 0 };
    out = record { from = 0; mark = 0; bytes = [] };
  };
  memory = (0, image ++ replicate (4096 * pages_for image - length image) 0) ∷ (1, replicate 4096 0) ∷ [];
}
