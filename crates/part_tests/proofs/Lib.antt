mod LongerBuffer
mod StillFree
