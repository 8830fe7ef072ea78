-- Rows from another implementation of document 01: lists of calls and all that they give, as facts about the
-- definitions. It printed this text; proofs/Rows.antt proves them by computation. Assumes nothing.
use Rattle.std.specs.Prelude.{◌≡◌, List, [], ◌∷◌, ℕ, ℤ, pos, negsuc, length, take}
use Rattle.std.proofs.Math.Option.{none, some}
use Rattle.refusal.specs.Limits.{refusal}
use Rattle.rule.specs.Voice.{announced, asked, tuning, Voice}
use Rattle.rule.specs.Calls.{Call, block, loss, pluck, announce, instant, ask, commit, withdraw}
use Rattle.rule.specs.Calls.{Opening, open_limits}
use Rattle.rule.specs.State as State
use Rattle.rule.specs.State.{fresh, from, puts}

-- what it gives for an opening and a list of calls: Open's number; the number and the count of each call;
-- the samples put out; the voice that is left; its line, newest first, back to a zero from before opening
pub record Answers : Type 0 where
  pub opening : ℕ
  pub numbers : List ℕ
  pub counts : List ℕ
  pub outputs : List ℤ
  pub voice : Voice
  pub line : List ℤ

-- the definitions give the same
pub record Row (o : Opening) (cs : List Call) (a : Answers) : Type 0 where
  pub opening : refusal (open_limits o) ≡ a.opening
  pub numbers : State.numbers (fresh o) cs ≡ a.numbers
  pub counts : State.counts (fresh o) cs ≡ a.counts
  pub outputs : puts (fresh o) cs ≡ a.outputs
  pub voice : (from (fresh o) cs).voice ≡ a.voice
  pub line : take (length a.line) (from (fresh o) cs).line ≡ a.line

abbrev pub opens : List Opening → List ℕ
opens [] = []
opens (o ∷ os) = refusal (open_limits o) ∷ opens os

pub record Rows : Type 0 where
  -- what Open returns on both sides of each limit, and where several are passed
  pub openings :
      opens
      (record { N = 0; L = 0; d = 0; G = 65536; Na = 65 }
      ∷ record { N = 4; L = 1; d = 4096; G = 0; Na = 0 }
      ∷ record { N = 1; L = 0; d = 2048; G = 65536; Na = 65 }
      ∷ record { N = 2; L = 2049; d = 6145; G = 0; Na = 0 }
      ∷ record { N = 1; L = 1; d = 2048; G = 65536; Na = 65 }
      ∷ record { N = 1; L = 2048; d = 6145; G = 0; Na = 0 }
      ∷ record { N = 2; L = 1; d = 6144; G = 65536; Na = 65 }
      ∷ record { N = 2; L = 2048; d = 10241; G = 0; Na = 0 }
      ∷ record { N = 3; L = 1; d = 10240; G = 65536; Na = 65 }
      ∷ record { N = 3; L = 2048; d = 14337; G = 0; Na = 0 }
      ∷ record { N = 1; L = 1; d = 2049; G = 65536; Na = 65 }
      ∷ record { N = 2; L = 2048; d = 10240; G = 65535; Na = 65 }
      ∷ record { N = 1; L = 1; d = 2049; G = 0; Na = 0 }
      ∷ record { N = 1; L = 2048; d = 6144; G = 65535; Na = 64 }
      ∷ record { N = 2; L = 1; d = 6145; G = 0; Na = 64 }
      ∷ record { N = 2; L = 2048; d = 10240; G = 65535; Na = 0 }
      ∷ record { N = 3; L = 1; d = 10241; G = 0; Na = 0 }
      ∷ record { N = 3; L = 2048; d = 14336; G = 65535; Na = 64 }
      ∷ [])
      ≡ 1 ∷ 1 ∷ 2 ∷ 2 ∷ 3 ∷ 3 ∷ 3 ∷ 3 ∷ 3 ∷ 3 ∷ 4 ∷ 5 ∷ 0 ∷ 0 ∷ 0 ∷ 0 ∷ 0 ∷ 0 ∷ []
  -- Na 2: announced changes from order 1 to 3, to 1, to 2 and to 3, each in force within a block;
  -- another order is refused by 6 while one waits; a change to order 1 waits at last
  pub orders-announced :
      Row (record { N = 1; L = 2; d = 3000; G = 65000; Na = 2 })
      (block (pos 1000000 ∷ negsuc 1999999 ∷ pos 500000 ∷ pos 7 ∷ []) 4
      ∷ announce (tuning 3 3 10300)
      ∷ block (pos 0 ∷ pos 0 ∷ pos 0 ∷ negsuc 8 ∷ []) 4
      ∷ announce (tuning 1 1 6000)
      ∷ block (pos 0 ∷ pos 0 ∷ pos 0 ∷ []) 3
      ∷ announce (tuning 2 2 9159)
      ∷ block (pos 0 ∷ []) 1
      ∷ announce (tuning 3 1 12000)
      ∷ block (pos 0 ∷ pos 0 ∷ pos 0 ∷ []) 3
      ∷ announce (tuning 3 1 14336)
      ∷ block (pos 0 ∷ pos 0 ∷ pos 5 ∷ pos 0 ∷ pos 0 ∷ []) 5
      ∷ announce (tuning 1 3 2049)
      ∷ block (pos 0 ∷ []) 1
      ∷ [])
      (record {
        opening = 0;
        numbers = 0 ∷ 0 ∷ 0 ∷ 0 ∷ 0 ∷ 0 ∷ 0 ∷ 6 ∷ 0 ∷ 0 ∷ 0 ∷ 0 ∷ 0 ∷ [];
        counts = 0 ∷ 0 ∷ 0 ∷ 0 ∷ 0 ∷ 0 ∷ 0 ∷ 0 ∷ 0 ∷ 0 ∷ 0 ∷ 0 ∷ 0 ∷ [];
        outputs =
            pos 0 ∷ pos 0 ∷ pos 154449 ∷ pos 667247 ∷ negsuc 2014001 ∷ pos 950590 ∷ negsuc 896072
            ∷ negsuc 1407253 ∷ pos 1314911 ∷ negsuc 451490 ∷ negsuc 332659 ∷ pos 438779
            ∷ negsuc 316045 ∷ pos 475714 ∷ negsuc 324364 ∷ negsuc 12020 ∷ pos 56059 ∷ negsuc 37532
            ∷ pos 119246 ∷ negsuc 130474 ∷ negsuc 32246 ∷ [];
        voice = record {
          tuning = record { N = 3; L = 1; d = 14336 };
          G = 65000;
          Na = 2;
          state = pos 8235 ∷ pos 45870 ∷ pos 12208 ∷ [];
          last = negsuc 32246;
          waiting = some (record {
            kind = announced;
            tuning = record { N = 1; L = 3; d = 2049 };
            taken = 1;
            state = pos 9192 ∷ [];
          });
          pluck = record { amplitude = 0; left = 0; noise = 0 };
        };
        line =
            negsuc 80694 ∷ negsuc 5567 ∷ pos 40522 ∷ pos 9192 ∷ pos 21838 ∷ negsuc 166816
            ∷ pos 75055 ∷ pos 79181 ∷ pos 60864 ∷ pos 52625 ∷ negsuc 388867 ∷ pos 428179
            ∷ negsuc 45792 ∷ negsuc 1142252 ∷ pos 27035 ∷ negsuc 527356 ∷ negsuc 667869
            ∷ pos 407494 ∷ pos 576592 ∷ negsuc 1999999 ∷ pos 1000000 ∷ pos 0 ∷ [];
      })
  -- Na 2: order 1 is asked for in order 3, and committed two samples late; order 3 is asked for in
  -- order 1, and withdrawn; order 2 is asked for, and committed on the sample
  pub orders-asked :
      Row (record { N = 3; L = 2; d = 11171; G = 65000; Na = 2 })
      (block (pos 1000000 ∷ negsuc 1999999 ∷ pos 500000 ∷ pos 7 ∷ []) 4
      ∷ ask (tuning 1 3 5000)
      ∷ block (pos 0 ∷ []) 1
      ∷ commit
      ∷ block (pos 0 ∷ pos 0 ∷ pos 0 ∷ []) 3
      ∷ commit
      ∷ block (pos 0 ∷ pos 0 ∷ []) 2
      ∷ ask (tuning 3 1 14000)
      ∷ block (pos 0 ∷ pos 9 ∷ pos 0 ∷ []) 3
      ∷ withdraw
      ∷ commit
      ∷ block (pos 0 ∷ []) 1
      ∷ ask (tuning 2 1 10240)
      ∷ block (pos 0 ∷ negsuc 8 ∷ []) 2
      ∷ commit
      ∷ block (pos 0 ∷ pos 0 ∷ pos 0 ∷ []) 3
      ∷ [])
      (record {
        opening = 0;
        numbers = 0 ∷ 0 ∷ 0 ∷ 20 ∷ 0 ∷ 0 ∷ 0 ∷ 0 ∷ 0 ∷ 0 ∷ 21 ∷ 0 ∷ 0 ∷ 0 ∷ 0 ∷ 0 ∷ [];
        counts = 0 ∷ 0 ∷ 0 ∷ 0 ∷ 0 ∷ 0 ∷ 0 ∷ 0 ∷ 0 ∷ 0 ∷ 0 ∷ 0 ∷ 0 ∷ 0 ∷ 0 ∷ 0 ∷ [];
        outputs =
            pos 0 ∷ pos 0 ∷ pos 3387 ∷ negsuc 41285 ∷ pos 297909 ∷ pos 477205 ∷ negsuc 1983362
            ∷ pos 945009 ∷ pos 88918 ∷ pos 467452 ∷ negsuc 649289 ∷ negsuc 630410 ∷ pos 422665
            ∷ pos 326874 ∷ pos 5377 ∷ negsuc 623834 ∷ pos 282521 ∷ pos 329502 ∷ negsuc 163202 ∷ [];
        voice = record {
          tuning = record { N = 2; L = 1; d = 10240 };
          G = 65000;
          Na = 2;
          state = pos 243059 ∷ negsuc 252734 ∷ [];
          last = negsuc 163202;
          waiting = none;
          pluck = record { amplitude = 0; left = 0; noise = 0 };
        };
        line =
            pos 82469 ∷ pos 303508 ∷ negsuc 169260 ∷ negsuc 306707 ∷ pos 164766 ∷ pos 371704
            ∷ negsuc 103022 ∷ negsuc 634607 ∷ negsuc 90174 ∷ pos 275909 ∷ pos 512735
            ∷ negsuc 514929 ∷ negsuc 746918 ∷ pos 384387 ∷ pos 127262 ∷ negsuc 18786 ∷ pos 501679
            ∷ negsuc 1999999 ∷ pos 1000000 ∷ pos 0 ∷ [];
      })
  -- order 2: refusal 1 before 2 and 3; 2 before 3; 3 with the order named, and not with the one in
  -- force; 6 last, while an asked change to order 3 waits, past Na at last
  pub orders-refused :
      Row (record { N = 2; L = 3; d = 7000; G = 60000; Na = 2 })
      (block (pos 1000000 ∷ negsuc 1999999 ∷ pos 500000 ∷ []) 3
      ∷ announce (tuning 0 2 7000)
      ∷ instant (tuning 4 2 7000)
      ∷ ask (tuning 4294967295 2 7000)
      ∷ announce (tuning 4 0 7000)
      ∷ instant (tuning 0 2049 0)
      ∷ ask (tuning 4 0 0)
      ∷ announce (tuning 3 0 7000)
      ∷ instant (tuning 1 2049 7000)
      ∷ ask (tuning 3 0 12000)
      ∷ announce (tuning 1 2 7000)
      ∷ instant (tuning 3 2 7000)
      ∷ ask (tuning 1 2 6145)
      ∷ announce (tuning 2 2 12000)
      ∷ instant (tuning 2 2 5000)
      ∷ ask (tuning 2 2 10241)
      ∷ ask (tuning 3 2 12000)
      ∷ announce (tuning 4 2 12000)
      ∷ instant (tuning 1 0 5000)
      ∷ ask (tuning 1 2 7000)
      ∷ announce (tuning 2 2 7000)
      ∷ instant (tuning 1 2 5000)
      ∷ ask (tuning 3 2 12000)
      ∷ block (pos 0 ∷ pos 0 ∷ pos 0 ∷ []) 3
      ∷ [])
      (record {
        opening = 0;
        numbers =
            0 ∷ 1 ∷ 1 ∷ 1 ∷ 1 ∷ 1 ∷ 1 ∷ 2 ∷ 2 ∷ 2 ∷ 3 ∷ 3 ∷ 3 ∷ 3 ∷ 3 ∷ 3 ∷ 0 ∷ 1 ∷ 2 ∷ 3 ∷ 6 ∷ 6
            ∷ 6 ∷ 0 ∷ [];
        counts =
            0 ∷ 0 ∷ 0 ∷ 0 ∷ 0 ∷ 0 ∷ 0 ∷ 0 ∷ 0 ∷ 0 ∷ 0 ∷ 0 ∷ 0 ∷ 0 ∷ 0 ∷ 0 ∷ 0 ∷ 0 ∷ 0 ∷ 0 ∷ 0 ∷ 0
            ∷ 0 ∷ 0 ∷ [];
        outputs = pos 0 ∷ pos 0 ∷ pos 0 ∷ negsuc 20537 ∷ pos 260348 ∷ pos 503653 ∷ [];
        voice = record {
          tuning = record { N = 2; L = 3; d = 7000 };
          G = 60000;
          Na = 2;
          state = pos 996420 ∷ negsuc 2214858 ∷ [];
          last = pos 503653;
          waiting = some (record {
            kind = asked;
            tuning = record { N = 3; L = 2; d = 12000 };
            taken = 2;
            state = negsuc 62236 ∷ pos 607360 ∷ negsuc 1999999 ∷ [];
          });
          pluck = record { amplitude = 0; left = 0; noise = 0 };
        };
        line =
            pos 349731 ∷ pos 109776 ∷ negsuc 9400 ∷ pos 500000 ∷ negsuc 1999999 ∷ pos 1000000
            ∷ pos 0 ∷ [];
      })
  -- inputs at ±M: outputs and samples that clip, above and below; refusals 9 and 10
  pub clips :
      Row (record { N = 1; L = 1; d = 2049; G = 65535; Na = 0 })
      (block (pos 8388607 ∷ pos 8388607 ∷ negsuc 8388606 ∷ pos 8388607 ∷ []) 4
      ∷ block [] 0
      ∷ block (pos 8388608 ∷ []) 1
      ∷ block (pos 0 ∷ negsuc 8388607 ∷ []) 2
      ∷ block (pos 1 ∷ []) 0
      ∷ block (pos 8388608 ∷ pos 0 ∷ []) 3
      ∷ block (negsuc 8388606 ∷ negsuc 8388606 ∷ negsuc 8388606 ∷ []) 3
      ∷ [])
      (record {
        opening = 0;
        numbers = 0 ∷ 0 ∷ 10 ∷ 10 ∷ 9 ∷ 9 ∷ 0 ∷ [];
        counts = 0 ∷ 0 ∷ 0 ∷ 0 ∷ 0 ∷ 0 ∷ 0 ∷ [];
        outputs =
            pos 0 ∷ pos 2794367 ∷ pos 8388607 ∷ pos 4041684 ∷ negsuc 1349182 ∷ pos 6492120
            ∷ negsuc 8388606 ∷ [];
        voice = record {
          tuning = record { N = 1; L = 1; d = 2049 };
          G = 65535;
          Na = 0;
          state = negsuc 2368134 ∷ [];
          last = negsuc 8388606;
          waiting = none;
          pluck = record { amplitude = 0; left = 0; noise = 0 };
        };
        line =
            negsuc 8388606 ∷ negsuc 5817177 ∷ negsuc 7042377 ∷ pos 8388607 ∷ negsuc 2797205
            ∷ pos 8388607 ∷ pos 8388607 ∷ pos 0 ∷ [];
      })
  -- order 1, Na 64: instant changes at step 0 and soon after it; one waits at last
  pub early :
      Row (record { N = 1; L = 2; d = 6144; G = 65535; Na = 64 })
      (instant (tuning 1 2048 2049)
      ∷ instant (tuning 1 2 5000)
      ∷ block (pos 3000000 ∷ negsuc 3999999 ∷ pos 70000 ∷ []) 3
      ∷ instant (tuning 1 1 2979)
      ∷ block (pos 0 ∷ pos 0 ∷ pos 0 ∷ []) 3
      ∷ announce (tuning 1 3 5555)
      ∷ block (pos 0 ∷ negsuc 0 ∷ []) 2
      ∷ [])
      (record {
        opening = 0;
        numbers = 0 ∷ 0 ∷ 0 ∷ 0 ∷ 0 ∷ 0 ∷ 0 ∷ [];
        counts = 64 ∷ 64 ∷ 0 ∷ 64 ∷ 0 ∷ 0 ∷ 0 ∷ [];
        outputs =
            pos 0 ∷ pos 0 ∷ negsuc 298140 ∷ negsuc 4374617 ∷ pos 242740 ∷ negsuc 2700836
            ∷ negsuc 1833533 ∷ negsuc 1297489 ∷ [];
        voice = record {
          tuning = record { N = 1; L = 1; d = 2979 };
          G = 65535;
          Na = 64;
          state = negsuc 2115019 ∷ [];
          last = negsuc 1297489;
          waiting = some (record {
            kind = announced;
            tuning = record { N = 1; L = 3; d = 5555 };
            taken = 2;
            state = negsuc 2419088 ∷ [];
          });
          pluck = record { amplitude = 0; left = 0; noise = 0 };
        };
        line =
            negsuc 1565488 ∷ negsuc 2267149 ∷ negsuc 1229028 ∷ negsuc 2065906 ∷ negsuc 2336342
            ∷ negsuc 79067 ∷ negsuc 3999999 ∷ pos 3000000 ∷ pos 0 ∷ [];
      })
  -- Na 0: announced changes take effect in the call, several at one step; refusal 4; G 0
  pub at_once :
      Row (record { N = 2; L = 1; d = 10240; G = 65535; Na = 0 })
      (block (pos 1000000 ∷ negsuc 1999999 ∷ pos 3000000 ∷ []) 3
      ∷ announce (tuning 2 2 6145)
      ∷ announce (tuning 2 1 7075)
      ∷ block (pos 0 ∷ pos 0 ∷ pos 0 ∷ []) 3
      ∷ instant (tuning 2 2048 10240)
      ∷ block (pos 0 ∷ []) 1
      ∷ announce (tuning 2 1 8000)
      ∷ instant (tuning 2 2 9159)
      ∷ block (pos 0 ∷ pos 0 ∷ []) 2
      ∷ loss 65536
      ∷ loss 65535
      ∷ block (pos 0 ∷ []) 1
      ∷ loss 0
      ∷ block (pos 0 ∷ pos 0 ∷ negsuc 6 ∷ []) 3
      ∷ [])
      (record {
        opening = 0;
        numbers = 0 ∷ 0 ∷ 0 ∷ 0 ∷ 0 ∷ 0 ∷ 0 ∷ 0 ∷ 0 ∷ 4 ∷ 0 ∷ 0 ∷ 0 ∷ 0 ∷ [];
        counts = 0 ∷ 0 ∷ 0 ∷ 0 ∷ 0 ∷ 0 ∷ 0 ∷ 0 ∷ 0 ∷ 0 ∷ 0 ∷ 0 ∷ 0 ∷ 0 ∷ [];
        outputs =
            pos 0 ∷ pos 47622 ∷ negsuc 366224 ∷ negsuc 55438 ∷ pos 583289 ∷ pos 2675660 ∷ pos 0
            ∷ pos 34684 ∷ negsuc 204205 ∷ pos 1404093 ∷ pos 1542686 ∷ pos 237674 ∷ negsuc 170450
            ∷ [];
        voice = record {
          tuning = record { N = 2; L = 2; d = 9159 };
          G = 0;
          Na = 0;
          state = pos 86872 ∷ pos 582675 ∷ [];
          last = negsuc 170450;
          waiting = none;
          pluck = record { amplitude = 0; left = 0; noise = 0 };
        };
        line =
            negsuc 6 ∷ pos 0 ∷ pos 0 ∷ pos 599934 ∷ negsuc 84758 ∷ pos 17341 ∷ pos 1337809
            ∷ pos 1629449 ∷ pos 263920 ∷ negsuc 210827 ∷ pos 2840701 ∷ negsuc 1976189 ∷ pos 1000000
            ∷ pos 0 ∷ [];
      })
  -- refusals 7 and 8; plucks replaced while they sound, one that runs out, one that is left
  pub plucks :
      Row (record { N = 1; L = 4; d = 3000; G = 50000; Na = 1 })
      (pluck 256 0 1
      ∷ pluck 255 0 1
      ∷ pluck 255 2049 1
      ∷ pluck 255 2048 4294967295
      ∷ block (pos 8388607 ∷ negsuc 8388606 ∷ []) 2
      ∷ pluck 3 2 9
      ∷ announce (tuning 1 2 6000)
      ∷ block (pos 0 ∷ pos 0 ∷ pos 0 ∷ []) 3
      ∷ pluck 0 5 7
      ∷ block (pos 0 ∷ pos 0 ∷ []) 2
      ∷ pluck 200 3 0
      ∷ loss 20000
      ∷ block (negsuc 8388606 ∷ []) 1
      ∷ instant (tuning 1 1 3000)
      ∷ block (pos 0 ∷ []) 1
      ∷ [])
      (record {
        opening = 0;
        numbers = 7 ∷ 8 ∷ 8 ∷ 0 ∷ 0 ∷ 0 ∷ 0 ∷ 0 ∷ 0 ∷ 0 ∷ 0 ∷ 0 ∷ 0 ∷ 0 ∷ 0 ∷ [];
        counts = 0 ∷ 0 ∷ 0 ∷ 0 ∷ 0 ∷ 0 ∷ 0 ∷ 0 ∷ 0 ∷ 0 ∷ 0 ∷ 0 ∷ 0 ∷ 1 ∷ 0 ∷ [];
        outputs =
            pos 0 ∷ pos 0 ∷ pos 0 ∷ pos 5411961 ∷ negsuc 7358344 ∷ negsuc 1813176 ∷ pos 1782937
            ∷ pos 253534 ∷ negsuc 1306874 ∷ [];
        voice = record {
          tuning = record { N = 1; L = 1; d = 3000 };
          G = 20000;
          Na = 1;
          state = negsuc 8386825 ∷ [];
          last = negsuc 1306874;
          waiting = none;
          pluck = record { amplitude = 200; left = 1; noise = 1196435762 };
        };
        line =
            negsuc 3063126 ∷ negsuc 8388606 ∷ negsuc 11534 ∷ negsuc 3498656 ∷ negsuc 742485
            ∷ pos 1984852 ∷ negsuc 51206 ∷ negsuc 8388606 ∷ pos 3971242 ∷ pos 0 ∷ [];
      })
  -- Open refuses by 1, with all numbers outside their limits
  pub refused1 :
      Row (record { N = 0; L = 0; d = 0; G = 65536; Na = 65 })
      (block (pos 8388607 ∷ negsuc 4 ∷ pos 0 ∷ []) 3
      ∷ pluck 255 1 0
      ∷ block (pos 0 ∷ []) 1
      ∷ [])
      (record {
        opening = 1;
        numbers = 0 ∷ 0 ∷ 0 ∷ [];
        counts = 0 ∷ 0 ∷ 0 ∷ [];
        outputs = pos 0 ∷ pos 0 ∷ pos 8388607 ∷ negsuc 4 ∷ [];
        voice = record {
          tuning = record { N = 1; L = 1; d = 4096 };
          G = 0;
          Na = 0;
          state = pos 0 ∷ [];
          last = negsuc 4;
          waiting = none;
          pluck = record { amplitude = 0; left = 0; noise = 0 };
        };
        line = negsuc 4410989 ∷ pos 0 ∷ negsuc 4 ∷ pos 8388607 ∷ pos 0 ∷ [];
      })
